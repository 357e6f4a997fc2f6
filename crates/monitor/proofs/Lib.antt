pub mod TableRun
pub mod RecordingRead
pub mod Left
pub mod NoMemory
pub mod Runs
pub mod Numerals
