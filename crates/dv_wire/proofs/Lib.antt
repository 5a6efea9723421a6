pub mod DeepLaws
pub mod Lists
pub mod QueryLaws
pub mod ReadLaws
pub mod RequestLaws
pub mod SpelledLaws
