pub mod Printed
pub mod Stand
