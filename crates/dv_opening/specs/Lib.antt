pub mod Directory
pub mod Opening
pub mod Seats
