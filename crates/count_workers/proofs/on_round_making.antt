pub mod Ran
pub mod Settled
