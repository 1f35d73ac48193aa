mod ReportedRows
pub mod Pairing
pub mod UnnamedFollow
pub mod GapPlaces
pub mod OneDraft
pub mod Judging
pub mod Offered
