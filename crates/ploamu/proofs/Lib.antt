pub mod Laid
pub mod RoundTrip
pub mod Determined
