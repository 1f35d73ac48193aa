pub mod Texts
pub mod Commands
pub mod Appending
pub mod Parts
pub mod Progress
pub mod Statements
pub mod OneListing
pub mod Offered
