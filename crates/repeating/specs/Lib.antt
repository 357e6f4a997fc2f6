pub mod Repeating
pub mod Value
