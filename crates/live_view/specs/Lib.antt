pub mod View
pub mod Shows
pub mod History
pub mod Rule
pub mod Ends
