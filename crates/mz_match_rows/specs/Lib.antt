pub mod TermCodes
pub mod Streams
pub mod Marks
pub mod Comparison
pub mod Beside
pub mod ReportedRow
pub mod Numbers
