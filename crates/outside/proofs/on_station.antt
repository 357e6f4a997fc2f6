pub mod Told
pub mod Moments
pub mod Recorded
pub mod Crashing
