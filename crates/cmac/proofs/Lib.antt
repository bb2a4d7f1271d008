pub mod Blocks
pub mod Macs
pub mod Determined
