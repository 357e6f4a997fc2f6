pub mod Printed
mod Lengths
mod Fitting
pub mod Written
mod Billionths
mod DetailFits
pub mod SameCounts
pub mod RangeSums
pub mod SegmentFigures
pub mod Repeats
pub mod WindowFits
