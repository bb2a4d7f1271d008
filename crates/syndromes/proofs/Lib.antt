pub mod OctetRule
pub mod Sums
