pub mod Layouts
pub mod RoundTrips
pub mod Determined
