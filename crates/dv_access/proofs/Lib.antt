pub mod Walks
pub mod Sorting
pub mod LeastIds
pub mod ReadableRows
pub mod HeldPairs
pub mod SharedRows
