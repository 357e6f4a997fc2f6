pub mod BodyState
pub mod Refusals
pub mod Answering
