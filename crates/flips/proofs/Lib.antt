pub mod FlipRule
