pub mod Retrieving
pub mod Accessing
pub mod Listing
pub mod Closures
pub mod Revoking
pub mod Granting
