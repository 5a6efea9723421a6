pub mod Reaches
pub mod Denial
pub mod Rights
pub mod Permitted
pub mod View
pub mod Principals
pub mod Gathered
