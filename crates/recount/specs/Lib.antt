pub mod Counted
pub mod Compared
pub mod FaultText
