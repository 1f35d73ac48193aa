pub mod Bodied
pub mod Hyps
pub mod Told
