pub mod ListLaws
pub mod TreeLaws
pub mod WithinLaws
pub mod Changes
pub mod Refused
pub mod TeamLaws
