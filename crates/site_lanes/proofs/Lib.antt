pub mod AfterRound
pub mod AllLanes
pub mod Asking
pub mod Opened
pub mod Places
