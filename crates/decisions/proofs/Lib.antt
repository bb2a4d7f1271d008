pub mod Acting
pub mod Resting
