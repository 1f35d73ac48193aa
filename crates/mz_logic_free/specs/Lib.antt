pub mod Known
pub mod Narrowed
pub mod Own
