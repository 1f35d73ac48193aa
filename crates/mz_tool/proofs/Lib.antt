mod Requests
mod Sizes
mod Compiles
mod CompiledOnce
mod Tables
mod Sampled
mod Assemblies
mod Listed
mod Specifications
mod Rests
mod Decompiles
mod WorkedExamples
mod Lines
mod Lengths
pub mod Declarations
pub mod Environment
pub mod Sorted
pub mod Legal
pub mod Statements
pub mod Stated
pub mod Limits
pub mod Vocabulary
pub mod Read
pub mod Pieces
pub mod Written
pub mod Lexed
pub mod Reading
pub mod Grouped
pub mod Agreeing
pub mod Specified
pub mod Accepted
