pub mod Rules
pub mod SboxRule
