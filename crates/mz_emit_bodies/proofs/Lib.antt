mod Prefixed
mod Ways
mod Commands
mod Scoping
mod Heaps
mod Writers
pub mod Lists
mod Moves
mod Keeping
mod Growing
mod Naming
mod Opening
mod Binding
mod Beginning
mod Counting
mod Ends
mod Running
mod QuietWriters
mod UsesOfWriters
mod WholeBodies
mod Waiting
mod Spending
mod GapsCounted
mod Operands
mod WorkedExamples
pub mod Paying
pub mod NoMore
pub mod Making
pub mod Owned
mod Kept
mod Entering
mod Bits
pub mod Offered
