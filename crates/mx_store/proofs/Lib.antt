pub mod Histories
pub mod Refused
pub mod Faults
pub mod Replays
pub mod Normals
pub mod Laws
pub mod Openings
