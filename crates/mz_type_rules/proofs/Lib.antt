pub mod Judging
pub mod Steps
pub mod Passing
pub mod Building
mod Differing
pub mod Claims
pub mod ClaimSides
pub mod ConvSteps
pub mod ProofSteps
pub mod Stacked
pub mod Keeping
pub mod BehindLets
pub mod StatementSteps
pub mod Offered
