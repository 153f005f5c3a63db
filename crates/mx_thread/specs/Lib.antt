pub mod Place
pub mod ThreadsView
