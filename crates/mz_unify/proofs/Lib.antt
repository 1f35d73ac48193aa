pub mod StoredIds
pub mod VariableWords
pub mod OperandWords
pub mod Parts
pub mod RowValues
pub mod UsualCommands
pub mod UnifyTurns
pub mod Underway
mod Through
pub mod ItemsLeft
pub mod RunsExact
pub mod Offered
