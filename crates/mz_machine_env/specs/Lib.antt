pub mod Before
pub mod OperandRows
pub mod OwnRow
pub mod CommandCodes
pub mod OneCommand
pub mod Items
