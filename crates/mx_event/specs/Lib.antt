pub mod Event
pub mod Place
pub mod Property
