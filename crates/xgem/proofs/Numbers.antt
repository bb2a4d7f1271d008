-- A number and its octets, as the crate `octets` has them.
-- Assumes nothing.
pub use Rattle.octets.proofs.Numbers.{power_pos, octets-length, value-octets, Bytes, value_lt, octets-value}
