pub mod Receiving
pub mod Asking
pub mod Inert
pub mod Checking
