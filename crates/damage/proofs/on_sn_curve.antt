pub mod Limits
pub mod Powers
