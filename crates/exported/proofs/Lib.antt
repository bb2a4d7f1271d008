pub mod Widths
pub mod Types
pub mod Linked
