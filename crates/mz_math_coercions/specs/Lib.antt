pub mod Firsts
pub mod Found
pub mod Graph
pub mod Groups
pub mod Kept
pub mod Reached
