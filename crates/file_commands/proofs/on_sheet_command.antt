pub mod Recordings
pub mod Answered
pub mod Asking
