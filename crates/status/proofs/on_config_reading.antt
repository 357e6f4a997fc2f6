pub mod Fronts
pub mod Refusing
