pub mod Heads
pub mod Making
pub mod Init
pub mod Asked
pub mod InitRun
