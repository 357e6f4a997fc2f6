pub mod Asked
pub mod Faults
pub mod Parts
mod Calls
mod Files
pub mod on_station
