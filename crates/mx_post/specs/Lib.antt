pub mod Post
pub mod Pieces
pub mod Answers
