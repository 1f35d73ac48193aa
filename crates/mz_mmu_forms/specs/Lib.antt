pub mod Steps
pub mod SpaceView
pub mod ScopeView
pub mod ConvSteps
pub mod ProofSteps
