pub mod Stretches
pub mod Listing
pub mod Few
pub mod OwnStretch
pub mod Determined
pub mod Isolation
