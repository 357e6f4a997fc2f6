pub mod Keys
pub mod FaultText
pub mod Fields
pub mod Configuration
pub mod Valid
pub mod recorded
