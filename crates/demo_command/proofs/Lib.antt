mod Joining
mod MadeBytes
mod OneSummary
mod Rounds
mod Summing
mod Sums
pub mod WithoutMemory
