pub mod Spelled
pub mod OneVerdict
pub mod AcceptedSound
pub mod SomeVerdict
pub mod Counting
pub mod Offered
pub mod FinishedDrafts
