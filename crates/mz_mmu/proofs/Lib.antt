pub mod TextSteps
pub mod Roots
pub mod HypLists
pub mod StatementDispatch
mod UnderscoreRuns
