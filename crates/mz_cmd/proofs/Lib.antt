pub mod SpellingLaws
pub mod FirstCommand
pub mod ReadingLaws
pub mod ListLaws
pub mod WorkedExamples
pub mod Offered
