pub mod Station
pub mod Calls
pub mod Replay
pub mod Moments
pub mod Recorder
pub mod MomentStation
