pub mod Decimals
pub mod Adding
