pub mod Bytes
pub mod Images
pub mod Moments
pub mod Crash
pub mod Steps
pub mod Gates
pub mod Opens
pub mod Staged
