pub mod Codes
pub mod Decoded
pub mod Spelling
pub mod Reading
pub mod StatementList
pub mod RuleText
