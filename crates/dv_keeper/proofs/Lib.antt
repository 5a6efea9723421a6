pub mod PlaceLaws
pub mod WriteLaws
