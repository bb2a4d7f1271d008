pub mod Laws
pub mod Arrays
pub mod Answers
pub mod Fields
pub mod RoundTrips
pub mod Refused
pub mod KnownOctets
