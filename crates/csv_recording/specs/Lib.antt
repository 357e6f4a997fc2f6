pub mod Cells
pub mod Column
pub mod Rows
pub mod Sheet
pub mod Recording
pub mod Back
pub mod Writers
pub mod FaultText
