pub mod Cells
pub mod Crash
pub mod Faults
pub mod Keepers
pub mod Memory
