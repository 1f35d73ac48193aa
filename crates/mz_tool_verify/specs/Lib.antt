pub mod Judging
pub mod Verify
pub mod Show
pub mod Requests
