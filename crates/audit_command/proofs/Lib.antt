mod Asking
mod Audits
mod Ended
mod Opened
mod Recounts
pub mod AuditRun
