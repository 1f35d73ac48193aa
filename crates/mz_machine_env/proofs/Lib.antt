pub mod FromPlaces
pub mod BeforeLaws
pub mod DisjointPlaces
pub mod ApartWords
pub mod BodyUnderway
mod FreeWords
mod OwnWords
mod FirstItems
pub mod Offered
