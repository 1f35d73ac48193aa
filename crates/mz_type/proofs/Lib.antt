pub mod BothModes
pub mod Turned
pub mod Shaping
pub mod Limits
mod Paths
mod StatedSteps
mod TypedSteps
mod Weighing
mod WeightBound
mod Written
mod TextFaults
mod Readying
pub mod Offered
