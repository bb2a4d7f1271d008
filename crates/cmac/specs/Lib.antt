pub mod Mac
pub mod Tags
