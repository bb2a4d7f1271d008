pub mod Limits
pub mod Records
pub mod Plan
pub mod Laser
