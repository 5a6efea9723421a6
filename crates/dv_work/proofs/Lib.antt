pub mod EntryLaws
pub mod HistoryLaws
pub mod PlaceLaws
pub mod JournalLaws
pub mod TouchLaws
