pub mod Binding
mod Grouping
pub mod Numerals
pub mod NamesAlone
pub mod Judged
pub mod TableChanges
pub mod Offered
