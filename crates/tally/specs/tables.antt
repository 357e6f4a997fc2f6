pub mod Tables
pub mod Bins
