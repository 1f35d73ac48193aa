pub mod Numbering
pub mod Entering
pub mod ExprCode
pub mod Codes
pub mod Kept
pub mod Stored
pub mod Rows
