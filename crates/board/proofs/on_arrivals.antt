pub mod Reached
pub mod Reaching
pub mod Ascending
