pub mod OverNodes
pub mod Steps
pub mod BodyAnswers
pub mod Endings
pub mod Stepping
pub mod Running
pub mod Tidiness
pub mod OpenNodes
