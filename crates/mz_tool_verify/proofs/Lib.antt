pub mod Judged
mod Listed
mod Requests
pub mod Offered
