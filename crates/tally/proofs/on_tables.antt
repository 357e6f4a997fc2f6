pub mod Counting
pub mod Filled
