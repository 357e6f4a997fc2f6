pub mod file_tasks
pub mod column_command
pub mod sheet_command
