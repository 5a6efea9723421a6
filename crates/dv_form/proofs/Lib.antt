pub mod Depths
pub mod Faultless
pub mod Faults
pub mod Integers
pub mod Reading
pub mod Shorts
