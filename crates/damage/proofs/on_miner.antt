pub mod Sum
pub mod Unique
