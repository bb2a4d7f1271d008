pub mod Receiving
pub mod Asking
pub mod PassingOver
pub mod Apart
pub mod Verdicts
pub mod Considering
