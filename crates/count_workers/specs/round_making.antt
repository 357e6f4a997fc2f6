pub mod Resting
pub mod Round
