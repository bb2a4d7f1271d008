pub mod Limits
pub mod Ports
