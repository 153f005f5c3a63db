pub mod Standing
pub mod Store
pub mod Opening
