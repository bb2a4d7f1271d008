pub mod Frames
pub mod Memory
pub mod Walk
pub mod Bounds
pub mod Inside
pub mod Alike
pub mod Deliveries
pub mod Appends
