pub mod Told
pub mod Kept
pub mod Going
pub mod Fronts
pub mod Pace
pub mod Hook
pub mod Stored
