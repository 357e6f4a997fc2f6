pub mod Sheet
pub mod SheetRun
