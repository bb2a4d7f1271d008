-- No second outcome: each public function's answer is fixed by what it is given.
-- Assumes nothing.
use Prim.Native.Nat.{ℕ}
use mathlib.Core.Path.{◌≡◌, ◌∙◌, sym}
use mathlib.Core.Bool.{Bool}
use Rattle.xgtc.specs.declared.allocation.Allocation.{Allocation}
use Rattle.entries.specs.declared.Verdict.{Verdict}
use Rattle.series.specs.Series.{judged}
use Rattle.series.specs.Opens.{closed, opened, goes_on_lem, fits}
use Rattle.series.specs.declared.Around.{Around}
use Rattle.series.specs.declared.Open.{Open}

pub closed_once : (a b : Open) → a ≡ closed → b ≡ closed → a ≡ b
closed_once a b p q = p ∙ sym q

pub opened_once : (h : Allocation) (a b : Open) → a ≡ opened h → b ≡ opened h → a ≡ b
opened_once h a b p q = p ∙ sym q

pub goes_on_once : (s : Open) (a b : Bool) → a ≡ goes_on_lem s → b ≡ goes_on_lem s → a ≡ b
goes_on_once s a b p q = p ∙ sym q

pub judge_once : (around : Around) (start words : ℕ) (a b : Verdict) → a ≡ judged around start words → b ≡ judged around start words → a ≡ b
judge_once around start words a b p q = p ∙ sym q

pub fits_once : (around : Around) (s : Open) (a b : Bool) → a ≡ fits around s → b ≡ fits around s → a ≡ b
fits_once around s a b p q = p ∙ sym q
