pub mod Telling
pub mod Beside
pub mod Ready
pub mod Made
