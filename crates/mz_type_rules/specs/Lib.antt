pub mod Claims
pub mod Answers
pub mod Scopes
pub mod Compared
pub mod BehindLets
