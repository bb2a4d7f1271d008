pub mod Limits
pub mod Lengths
pub mod Partitions
pub mod Opening
