pub mod Detail
pub mod DetailFault
pub mod Curve
