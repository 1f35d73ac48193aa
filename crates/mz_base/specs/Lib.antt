pub mod Identifiers
pub mod Names
pub mod Gaps
pub mod Checks
