pub mod Numbers
pub mod Steps
pub mod Layouts
pub mod Padding
pub mod Frames
pub mod RoundTrips
pub mod Determined
