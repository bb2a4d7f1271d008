pub mod Given
pub mod Frame
