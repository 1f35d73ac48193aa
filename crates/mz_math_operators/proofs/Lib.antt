pub mod Spotting
mod Levelling
mod Pairwise
pub mod Literals
pub mod Naming
pub mod Noting
pub mod Marking
pub mod Offered
