-- The four rows of the table hold the columns that they should: one test of each, which antt computes.
-- Assumes nothing.
use mathlib.Core.Path.{◌≡◌, refl}
use mathlib.Core.List.{List, []}
use Prim.Native.Nat.{ℕ, ◌%◌}
use native.Mathlib.Omega.{arith}
use lib.Dec.{T}
use lib.ListN.{length, get_or}
use Rattle.subbytes.proofs.Rules.{every, equal, listed}
use Rattle.subbytes.specs.Field.{s_box, affine, inverse, square, gmul, products, xtime}
use Rattle.mixcolumns.specs.Columns.{mix_of, turned}
use Rattle.mixcolumns.specs.Mixed.{mixed}

abbrev pub row_of : ℕ → List ℕ
row_of k = get_or mixed k []

once : ℕ → ℕ
once x = turned (mix_of x)

twice : ℕ → ℕ
twice x = turned (turned (mix_of x))

thrice : ℕ → ℕ
thrice x = turned (turned (turned (mix_of x)))

passed0 : T (every (equal mix_of) 0 (row_of 0))
unfolding mix_of s_box affine inverse square gmul products xtime
passed0 = tt

passed1 : T (every (equal once) 0 (row_of 1))
unfolding once mix_of s_box affine inverse square gmul products xtime
passed1 = tt

passed2 : T (every (equal twice) 0 (row_of 2))
unfolding twice mix_of s_box affine inverse square gmul products xtime
passed2 = tt

passed3 : T (every (equal thrice) 0 (row_of 3))
unfolding thrice mix_of s_box affine inverse square gmul products xtime
passed3 = tt

row : (f : ℕ → ℕ) (xs : List ℕ) → length xs ≡ 256 → T (every (equal f) 0 xs) → (x : ℕ) → get_or xs (x % 256) 0 ≡ f (x % 256)
row f xs l t x = listed f xs t (x % 256) (omega arith)

pub row0 : (x : ℕ) → get_or (row_of 0) (x % 256) 0 ≡ mix_of (x % 256)
row0 x = row mix_of (row_of 0) refl passed0 x

pub row1 : (x : ℕ) → get_or (row_of 1) (x % 256) 0 ≡ turned (mix_of (x % 256))
unfolding once
row1 x = row once (row_of 1) refl passed1 x

pub row2 : (x : ℕ) → get_or (row_of 2) (x % 256) 0 ≡ turned (turned (mix_of (x % 256)))
unfolding twice
row2 x = row twice (row_of 2) refl passed2 x

pub row3 : (x : ℕ) → get_or (row_of 3) (x % 256) 0 ≡ turned (turned (turned (mix_of (x % 256))))
unfolding thrice
row3 x = row thrice (row_of 3) refl passed3 x
