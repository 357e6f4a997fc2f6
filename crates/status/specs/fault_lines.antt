pub mod Room
pub mod FaultLine
pub mod Telling
