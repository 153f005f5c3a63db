pub mod Differences
pub mod Block
pub mod Walk
pub mod Inside
pub mod Kept
pub mod Entries
pub mod EntriesLaws
pub mod Lists
