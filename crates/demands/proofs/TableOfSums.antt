-- The table of sums holds. A header's reading is computed by the true tables.
-- Assumes nothing.
use mathlib.Core.Path.{◌≡◌, refl, ap}
use Prim.Native.Nat.{ℕ}
use lib.Dec.{lit<}
use lib.Count.{ones_in}
use Rattle.hec.specs.Reads.{Reading, word, unreadable}
use Rattle.hec.proofs.Compute.{computed32}
use Rattle.bch.specs.Code.{remainder_from}
use Rattle.flips.proofs.FlipRule.{flips}
use Rattle.xgtc.specs.Layouts.{hlend_of}
use Rattle.xgem.specs.Reads.{taken}
use Rattle.bwmap.proofs.Sums.{sum_8, sum_9, sum_10, sum_11}
use Rattle.invariants.proofs.Sums.{sum_12}
use Rattle.demands.specs.Sums.{Sums, hlend_gives}

pub sums : Sums
unfolding remainder_from ones_in flips
sums =
    record {
      sum_1 = ap (taken hlend_of) (computed32 0x00000000 (lit< tt) (word 0x00000000) refl);
      sum_2 = ap (taken hlend_of) (computed32 0x00002A73 (lit< tt) (word 0x00002A73) refl);
      sum_3 = ap (taken hlend_of) (computed32 0x002013AC (lit< tt) (word 0x002013AC) refl);
      sum_4 = ap (taken hlend_of) (computed32 0x002039DF (lit< tt) (word 0x002039DF) refl);
      sum_5 = (
        ap (taken hlend_of) (computed32 0x00002A72 (lit< tt) (word 0x00002A73) refl),
        ap (taken hlend_of) (computed32 0x00002A70 (lit< tt) (word 0x00002A73) refl),
      );
      sum_6 = ap (taken hlend_of) (computed32 0x00002A74 (lit< tt) unreadable refl);
      sum_7 = (refl, refl, refl, refl);
      sum_8 = sum_8;
      sum_9 = sum_9;
      sum_10 = sum_10;
      sum_11 = sum_11;
      sum_12 = sum_12;
    }
