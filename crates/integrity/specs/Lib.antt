pub mod Integrity
pub mod Rights
pub mod Rows
