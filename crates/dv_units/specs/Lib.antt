pub mod Chart
pub mod Tree
pub mod Membership
pub mod Rules
pub mod Outcome
pub mod Messages
pub mod Cursors
pub mod Index
