pub mod Refusals
pub mod Whats
