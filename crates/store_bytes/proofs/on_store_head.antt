pub mod Faultless
pub mod Gauges
pub mod Passing
