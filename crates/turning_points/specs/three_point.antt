pub mod Run
pub mod Standard
pub mod Sums
pub mod Bounds
pub mod Live
pub mod Ranges
