pub mod Links
pub mod Chains
pub mod Circles
pub mod Found
pub mod Removal
pub mod Cleared
pub mod Sound
