pub mod Fault
pub mod Source
pub mod Sink
pub mod Site
pub mod station
