pub mod Steps
pub mod Arrange
pub mod Claims
