pub mod Body
pub mod Condition
pub mod Facts
pub mod Holds
pub mod MemberCount
pub mod Pattern
pub mod PowerLevels
