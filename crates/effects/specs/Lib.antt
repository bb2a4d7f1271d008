pub mod Effects
pub mod Changes
