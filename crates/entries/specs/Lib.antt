pub mod Limits
pub mod Standings
pub mod Names
