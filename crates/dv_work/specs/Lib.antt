pub mod History
pub mod Entries
pub mod Journal
