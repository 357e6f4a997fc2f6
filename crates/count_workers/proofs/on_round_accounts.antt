pub mod Lists
pub mod Names
pub mod Standing
pub mod Taken
pub mod Arrived
