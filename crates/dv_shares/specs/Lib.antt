pub mod Rights
pub mod Grants
pub mod Outcome
pub mod Steps
pub mod Inheriting
pub mod Heirs
pub mod Handing
