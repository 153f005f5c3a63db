pub mod Image
pub mod Fault
pub mod Calls
pub mod Journal
pub mod NextRecord
pub mod Held
pub mod Opening
