pub mod Made
pub mod Totals
pub mod Summary
pub mod Answer
pub mod DemoRun
