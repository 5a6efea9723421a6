pub mod Linking
pub mod Making
pub mod Owning
pub mod Placing
pub mod Staying
pub mod Teams
pub mod Telling
