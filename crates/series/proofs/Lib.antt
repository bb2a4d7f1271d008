pub mod Runs
pub mod Judged
pub mod Opens
pub mod Once
