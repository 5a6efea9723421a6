pub mod BigEndian
pub mod Parts
pub mod NoItem
pub mod Spelled
pub mod KeyOrder
pub mod OneItem
pub mod Listed
