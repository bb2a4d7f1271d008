pub mod Ranging
pub mod Decisions
pub mod Acts
pub mod Sums
