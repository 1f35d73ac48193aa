pub mod Places
mod Made
mod Chained
mod Tabled
mod Finding
mod SameIds
mod Longer
mod Growing
mod Entering
mod Adding
mod ParamWords
mod Beginning
mod Restarting
mod OverTerms
mod Placing
mod Gathering
pub mod Params
mod Operands
mod AllVariables
mod BoundOperands
mod FreeVariables
pub mod Taking
pub mod Meeting
pub mod Offered
