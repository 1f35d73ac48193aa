pub mod Named
mod Listing
mod Runs
mod Walking
pub mod Atoms
pub mod Written
pub mod Saying
pub mod Numbers
pub mod NoKeyword
pub mod Exprs
pub mod Steps
pub mod Modifiers
pub mod Binders
pub mod Behind
pub mod Declared
pub mod Stated
pub mod Capping
mod Longer
mod Adding
mod Finding
mod Fields
mod Measuring
mod Lists
pub mod RowNumbers
pub mod Commands
pub mod Frames
pub mod RowSteps
pub mod Rows
pub mod Sizes
mod LongerProofs
mod Values
mod Progress
mod ProofsBehind
mod Lowering
mod Wholes
pub mod Offered
