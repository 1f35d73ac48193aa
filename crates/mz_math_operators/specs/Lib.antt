pub mod Names
pub mod Headed
pub mod Once
pub mod Levels
pub mod Given
