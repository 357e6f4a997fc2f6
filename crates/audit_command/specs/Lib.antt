pub mod Recounted
pub mod Audited
pub mod Answers
pub mod Asked
pub mod Printing
pub mod AuditRun
