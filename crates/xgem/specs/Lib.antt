pub mod Layouts
pub mod Reads
pub mod Writes
