pub mod Effects
pub mod Kept
pub mod Closures
pub mod Updating
pub mod Assigning
pub mod Deleting
pub mod Losing
pub mod Moving
