mod Walking
mod Knowing
mod Sharing
mod Owners
mod Narrowing
pub mod Offered
