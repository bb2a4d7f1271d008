pub mod Moves
pub mod LineParts
pub mod Steps
pub mod OneByOne
pub mod Turns
pub mod Cuts
pub mod Numbering
