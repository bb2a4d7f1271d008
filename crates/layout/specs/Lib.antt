pub mod Rows
pub mod Offsets
pub mod Layout
pub mod KnownOctets
pub mod Typed
