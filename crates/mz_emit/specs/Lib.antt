pub mod Params
pub mod Going
pub mod Emitting
