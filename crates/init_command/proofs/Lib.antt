mod Asking
mod Reading
mod AnswerCases
mod Lines
mod MakingMoments
pub mod InitRun
