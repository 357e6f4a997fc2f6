pub mod CellsFrom
pub mod Chosen
pub mod Ordered
pub mod Residues
pub mod Ended
pub mod Summed
pub mod Broken
pub mod Sizes
