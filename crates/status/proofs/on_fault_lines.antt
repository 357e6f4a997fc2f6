pub mod Lengths
pub mod FirstByte
pub mod Telling
pub mod Refused
