pub mod Reported
pub mod Drafts
pub mod Judged
