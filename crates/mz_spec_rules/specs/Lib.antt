pub mod Entries
pub mod Answers
pub mod Noting
pub mod LastOf
