mod Adding
mod Lists
mod Statements
mod Standing
mod Decided
mod Texts
mod Walking
mod Sizing
mod Bridging
mod Answered
pub mod Lets
pub mod Theorems
pub mod Restating
pub mod Alike
pub mod Seen
pub mod SpecNames
pub mod Prefixed
pub mod Titles
pub mod Ascending
pub mod RestatedHypotheses
pub mod FewBound
pub mod Rows
pub mod Stated
pub mod Phrasable
pub mod WholeTexts
