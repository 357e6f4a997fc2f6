pub mod Points
pub mod Pairs
pub mod Turned
pub mod Pieces
pub mod EndPoints
pub mod Ends
pub mod three_point
