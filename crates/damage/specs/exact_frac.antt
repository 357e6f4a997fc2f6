pub mod Frac
