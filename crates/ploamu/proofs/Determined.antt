-- No second outcome meets a contract of this crate; refusals are exact.
-- Assumes nothing.
use mathlib.Core.Path.{◌≡◌, ◌∙◌, sym, ap}
use mathlib.Core.Bool.{and-false}
use mathlib.Core.List.{List}
use Prim.Native.Nat.{ℕ, ◌<◌}
use lib.ListN.{length}
use borrow.Author.Tests.{lt-leb}
use Rattle.std.specs.Prelude.{Result}
use Rattle.ploamu.specs.declared.Unheard.{Unheard}
use Rattle.ploam.specs.Layout.{message_octets}
use Rattle.ploamu.specs.Upstream.{upstream_address, heard}
use Rattle.ploamu.specs.Writing.{MessageLeft, written, Leaves}
use Rattle.ploamu.specs.declared.UpstreamMessage.{UpstreamMessage}
use Rattle.answers.specs.declared.Answer.TheVariants.{NotWritten}
use Rattle.answers.specs.Answers.{answer_number}

pub heard_determined : (m : List ℕ) (a b : Result UpstreamMessage Unheard) → a ≡ heard m → b ≡ heard m → a ≡ b
heard_determined m a b p q = p ∙ sym q

-- the answer and the whole target
pub write_determined : (due : MessageLeft) (octets : List ℕ) (a b : MessageLeft) → Leaves due octets a → Leaves due octets b → a ≡ b
write_determined due octets a b p q = p.made ∙ sym q.made

-- answer 11, and nothing changed
pub record Refused (target : List ℕ) (left : MessageLeft) : Type 0 where
  pub number : answer_number left.answer ≡ 11
  pub kept : left.target ≡ target

refused : (target : List ℕ) (left : MessageLeft) → left ≡ record { answer = NotWritten; target = target } → Refused target left
refused target left e =
    record { number = ap (λ (o : MessageLeft). answer_number o.answer) e; kept = ap (λ (o : MessageLeft). o.target) e }

pub refused-wide : (installed : List ℕ) (message : UpstreamMessage) (id target : List ℕ) → 1023 < (upstream_address message).0
    → Refused target (written installed message id target)
unfolding written
refused-wide installed message id target h =
    refused target (written installed message id target) (simp (lt-leb (upstream_address message).0 1023 h))

pub refused_short : (installed : List ℕ) (message : UpstreamMessage) (id target : List ℕ) → length target < message_octets
    → Refused target (written installed message id target)
unfolding written
refused_short installed message id target h =
    refused target (written installed message id target) (simp (lt-leb message_octets (length target) h, and-false))
