pub mod Lines
pub mod Records
pub mod Runs
pub mod Reads
pub mod Sessions
