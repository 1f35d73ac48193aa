pub mod Keyed
mod Chosen
pub mod Grouped
pub mod Joins
pub mod Indexed
mod Inserted
pub mod Offered
