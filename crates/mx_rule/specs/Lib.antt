pub mod Actions
pub mod Deciding
pub mod Editing
pub mod Judged
pub mod Predefined
pub mod Printed
pub mod Rule
pub mod Ruleset
