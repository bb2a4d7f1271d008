pub mod Blocks
pub mod Xor
pub mod Octets
pub mod Ciphers
pub mod Each
pub mod Rounds
pub mod Determined
