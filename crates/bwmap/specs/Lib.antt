pub mod Plan
pub mod Promises
pub mod Upstream
pub mod Turns
pub mod Verdicts
pub mod Sums
pub mod Names
pub mod Courses
