pub mod EntryView
pub mod TextRead
pub mod TextStops
