pub mod Head
pub mod Headers
pub mod Message
pub mod Hopeless
pub mod Stream
pub mod Reading
