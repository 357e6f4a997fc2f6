pub mod Figures
pub mod Printed
pub mod Task
pub mod Outside
pub mod DemoRun
pub mod Run
