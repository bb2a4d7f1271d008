pub mod Upstream
pub mod Writing
