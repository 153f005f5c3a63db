pub mod Change
pub mod Facts
pub mod Hosted
pub mod Kept
pub mod Members
pub mod Rooms
pub mod State
pub mod Texts
