pub mod Sums
pub mod Ports
pub mod Maps
pub mod Messages
