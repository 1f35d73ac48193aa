pub mod BodyRuns
pub mod Progress
pub mod Judging
pub mod Remembering
