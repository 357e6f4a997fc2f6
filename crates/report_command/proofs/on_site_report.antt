pub mod FewHalves
pub mod Printed
pub mod Summed
pub mod HeldFigures
pub mod Windowed
