pub mod Words
pub mod Nearest
pub mod Mending
pub mod Protected
pub mod Steps
pub mod Determined
pub mod Compute
