pub mod on_file_tasks
pub mod on_sheet_command
