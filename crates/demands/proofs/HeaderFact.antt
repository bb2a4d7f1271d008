-- The header fact, once for every length of up to 64 bits.
-- Assumes nothing.
use mathlib.Core.Path.{◌≡◌, subst}
use Prim.Native.Nat.{ℕ, ◌≤◌}
use Rattle.hec.specs.Reads.{Reading, Reads, reading}
use Rattle.hec.proofs.Words.{one_near, mends}
use Rattle.hec.proofs.Nearest.{reading-reads}
use Rattle.demands.specs.Headers.{HeaderFact}

pub header_fact : (n : ℕ) → n ≤ 64 → HeaderFact n
header_fact n wide =
    record {
      mended = λ w v h t d. mends n w wide h v t d (reading n w) (reading-reads n w wide h);
      true = λ w v h e. subst (Reads n w) e (reading-reads n w wide h);
      only = λ w h e. subst (Reads n w) e (reading-reads n w wide h);
      one = λ w u v h tu du tv dv. one_near n w wide h u v tu du tv dv;
    }
