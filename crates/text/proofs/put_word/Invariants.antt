-- What is still to come puts what the whole word put from the start.
use mathlib.Core.Path.{◌≡◌}
use lib.ListN.{length, drop}
use Rattle.text.specs.Texts.{added}
use Rattle.text.proofs.put_word.Given as goal

abbrev pub invariant-loop-octet : goal.invariant-loop-octet
invariant-loop-octet l = (length l.text ≡ length l.initial.text) × (added l.text l.place (drop l.octet-index l.word) ≡ added l.initial.text l.at l.word)
