pub mod Stretch
pub mod Search
