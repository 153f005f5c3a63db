pub mod Threads
pub mod Rows
pub mod Plain
pub mod PlainLaws
