pub mod Tokens
pub mod Streams
pub mod Statements
pub mod Listing
pub mod Answers
pub mod Asked
