pub mod Taken
pub mod Pieces
pub mod Rows
pub mod Differences
