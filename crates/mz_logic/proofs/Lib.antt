mod Owning
mod Paths
mod NearMisses
pub mod WorkedExamples
