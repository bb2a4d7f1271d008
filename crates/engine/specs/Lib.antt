pub mod Answers
pub mod Alike
pub mod Counts
pub mod Lods
pub mod Stretch
pub mod Each
pub mod Naming
