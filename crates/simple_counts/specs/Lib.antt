pub mod Simple
pub mod Loading
pub mod level_crossing
