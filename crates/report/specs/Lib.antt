pub mod Printed
pub mod Figures
pub mod Lines
pub mod Texts
pub mod Window
pub mod Repeat
pub mod Page
