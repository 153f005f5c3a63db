pub mod Course
pub mod Track
