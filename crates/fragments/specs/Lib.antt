pub mod Fragments
pub mod Marks
pub mod Within
