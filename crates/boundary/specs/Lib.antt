pub mod Calls
pub mod Frames
pub mod Lists
pub mod Writers
