pub mod Fitting
pub mod NamingLaws
pub mod Owning
pub mod Walking
