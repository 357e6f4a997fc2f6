pub mod Crossings
pub mod Halves
pub mod Extremes
pub mod Loading
