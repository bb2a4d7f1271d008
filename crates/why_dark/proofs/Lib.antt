pub mod Lines
pub mod Counted
pub mod Frames
pub mod Lengths
