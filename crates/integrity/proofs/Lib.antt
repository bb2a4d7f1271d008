pub mod Same
pub mod Keys
pub mod Signed
pub mod Determined
pub mod WhichKey
pub mod SideBySide
pub mod RowByRow
