pub mod Recorded
pub mod Asked
