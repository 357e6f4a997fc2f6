pub mod Ahead
pub mod LeadsOn
pub mod RoundOf
