pub mod Task
pub mod Text
