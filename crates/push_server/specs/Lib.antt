pub mod CommandLine
pub mod Status
pub mod Crash
pub mod JournalLines
pub mod Headline
pub mod Steps
pub mod Answered
pub mod Transfers
