pub mod BadLines
pub mod Cuts
pub mod EmptyLines
pub mod Hearing
pub mod Hopes
pub mod LastFeed
pub mod Streams
pub mod Values
