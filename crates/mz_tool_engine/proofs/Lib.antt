pub mod Among
pub mod Endings
pub mod Faults
pub mod Following
pub mod Given
pub mod Offered
pub mod Rooms
pub mod Telling
