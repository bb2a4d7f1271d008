pub mod Types
pub mod Determined
