pub mod FileState
pub mod Answer
pub mod Run
pub mod FaultText
