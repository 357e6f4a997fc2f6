pub mod Lists
pub mod Sums
pub mod Naturals
pub mod Integers
pub mod Outcomes
