-- No second outcome: each public function's answer is fixed by what it is given.
-- Assumes nothing.
use Prim.Native.Nat.{ℕ}
use mathlib.Core.Path.{◌≡◌, ◌∙◌, sym}
use mathlib.Core.List.{List}
use Rattle.xgtc.specs.declared.allocation.Allocation.{Allocation}
use Rattle.plan.specs.Records.{head_flags_lem, more_flags_lem, placed}

pub head_flags_once : (h : Allocation) (a b : ℕ) → a ≡ head_flags_lem h → b ≡ head_flags_lem h → a ≡ b
head_flags_once h a b p q = p ∙ sym q

pub more_flags_once : (h e : Allocation) (a b : ℕ) → a ≡ more_flags_lem h e → b ≡ more_flags_lem h e → a ≡ b
more_flags_once h e a b p q = p ∙ sym q

pub write_record_once : (plan : List ℕ) (at : ℕ) (e : Allocation) (flags start : ℕ) (a b : List ℕ) → a ≡ placed plan at e flags start → b ≡ placed plan at e flags start → a ≡ b
write_record_once plan at e flags start a b p q = p ∙ sym q
