-- No second outcome: each public function's answer is fixed by what it is given.
-- Assumes nothing.
use Prim.Native.Nat.{ℕ}
use mathlib.Core.Path.{◌≡◌, ◌∙◌, sym}
use mathlib.Core.Bool.{Bool}
use mathlib.Core.List.{List}
use Rattle.xgtc.specs.Reads.{read_allocation_lem}
use Rattle.entries.specs.declared.Own.{Own}
use Rattle.entries.specs.declared.Verdict.{Verdict}
use Rattle.entries.specs.declared.Standing.{Standing}
use Rattle.entries.specs.Standings.{is_planned_lem, standing}
use Rattle.entries.specs.Names.{name_number}

pub standing_ahead_once : (own : Own) (s : List ℕ) (a b : Standing) → a ≡ standing own (read_allocation_lem s) → b ≡ standing own (read_allocation_lem s) → a ≡ b
standing_ahead_once own s a b p q = p ∙ sym q

pub is_planned_once : (v : Verdict) (a b : Bool) → a ≡ is_planned_lem v → b ≡ is_planned_lem v → a ≡ b
is_planned_once v a b p q = p ∙ sym q

pub number_once : (v : Verdict) (a b : ℕ) → a ≡ name_number v → b ≡ name_number v → a ≡ b
number_once v a b p q = p ∙ sym q
