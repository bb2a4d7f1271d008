pub mod Columns
pub mod Mixed
