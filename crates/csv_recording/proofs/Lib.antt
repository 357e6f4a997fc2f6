pub mod ReadBack
pub mod Records
pub mod CellBack
pub mod Written
pub mod Back
pub mod Writing
mod CellFacts
mod ColumnFacts
mod RowFacts
