pub mod GapRows
pub mod HandedOn
pub mod GapWalk
pub mod Popping
pub mod ConversionRows
pub mod Converting
pub mod Unfoldings
mod CitationRows
mod Citing
pub mod RowResults
pub mod TakenOperands
pub mod ReadExprs
mod StoredItems
pub mod FittingOperands
mod Disjointness
mod TermRows
pub mod TermResults
pub mod Stopping
mod EndRows
mod Ending
mod Advancing
pub mod BodyRunning
pub mod Dummies
pub mod Machines
pub mod Beginning
mod KnownParams
mod Barred
mod UnifyBelow
mod BarredRows
mod OpenStacks
mod WholeRows
mod LackRows
mod WholeEnds
mod Executed
mod Obeying
mod Proceeding
mod Referring
pub mod Offered
