pub mod Index
pub mod Code
pub mod NewNames
