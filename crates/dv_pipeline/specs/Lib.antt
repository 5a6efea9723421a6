pub mod Creating
pub mod Requests
pub mod Querying
pub mod Run
pub mod Scenes
