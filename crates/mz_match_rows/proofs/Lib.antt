mod BesideRows
mod FewDummies
mod SaidStreams
mod PlainTrees
mod SameBodies
mod Compared
mod Steps
mod KeptMarks
mod Numbering
pub mod RowPairs
pub mod Offered
