pub mod Forms
pub mod LocalFaults
pub mod Integers
pub mod Members
pub mod Places
pub mod Spellings
pub mod Schemas
pub mod Walk
