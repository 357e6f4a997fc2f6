pub mod Opening
pub mod Answers
pub mod Asked
pub mod Lanes
pub mod Ending
pub mod FaultText
