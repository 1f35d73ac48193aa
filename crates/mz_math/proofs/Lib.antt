pub mod Arranging
pub mod Claiming
pub mod Picking
pub mod Waiting
pub mod Example
pub mod Found
pub mod Heights
pub mod Uncoerced
