pub mod Few
pub mod Parts
pub mod Rules
pub mod RuleText
pub mod Tests
