pub mod Seen
pub mod Watching
pub mod Steps
