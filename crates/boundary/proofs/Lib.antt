pub mod Laws
pub mod Widths
pub mod Determined
pub mod OneForm
pub mod Order
pub mod Lists
