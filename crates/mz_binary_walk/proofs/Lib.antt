pub mod Heads
pub mod OnWay
pub mod Offered
