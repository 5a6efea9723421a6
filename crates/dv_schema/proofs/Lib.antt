pub mod FirstLaws
pub mod Left
pub mod WithinLimits
