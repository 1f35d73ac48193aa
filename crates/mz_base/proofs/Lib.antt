pub mod Numbering
pub mod Keyed
pub mod WorkedNames
pub mod Identifying
pub mod CheckLaws
pub mod InOrder
pub mod Retold
mod Deciding
mod Loops
mod Members
mod Places
pub mod Offered
