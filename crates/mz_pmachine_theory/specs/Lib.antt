pub mod NodeIdentity
pub mod Simulation
pub mod SharedBuilding
pub mod SafeSaving
pub mod FilesByIdentity
pub mod Laws
pub mod Examples
