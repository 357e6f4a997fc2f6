pub mod OnlySeen
pub mod SeenNumbers
