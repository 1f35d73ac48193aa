pub mod Growing
mod Entered
mod Pushed
mod Adding
mod Beginning
mod HandedOver
mod OverTerms
mod Reading
pub mod Params
pub mod StoredIds
pub mod VariableWords
pub mod Parts
pub mod Offered
