pub mod Facts
pub mod Names
pub mod Numbers
pub mod Called
