-- Writing a message into a lent slice: octets 1 to 40, then the integrity field. The rest of the slice is kept.
-- Assumes nothing.
use Rattle.std.specs.Prelude.{ℕ, Bool, cond, ◌&&◌, ◌≡◌, List, ◌++◌, length, drop, leb}
use Rattle.aes.specs.Words.{Octets}
use Rattle.cmac.specs.Tags.{mac64_by}
use Rattle.cmac.specs.declared.Prepared.{Prepared}
use Rattle.ploam.specs.Layout.{message_octets}
use Rattle.integrity.specs.Integrity.{covered, mic_of, by_default_lem, key_for}
use Rattle.integrity.specs.declared.Direction.{Direction}
use Rattle.integrity.specs.declared.Direction.TheVariants.{Upstream}
use Rattle.ploamu.specs.Upstream.{upstream_address, upstream_type, upstream_octets_lem, fitting}
use Rattle.ploamu.specs.declared.UpstreamMessage.{UpstreamMessage}
use Rattle.answers.specs.declared.Answer.{Answer}
use Rattle.answers.specs.declared.Answer.TheVariants.{Done, NotWritten}

-- the answer, and what the slice holds afterwards
pub record MessageLeft : Type 0 where
  pub answer : Answer
  pub target : List ℕ

-- octets 1 to 40 and the integrity field over the front of the slice; 11: a value too wide for its field, or a target
-- too short
abbrev pub laid : List ℕ → Bool → List ℕ → List ℕ → MessageLeft
laid mic fits octets target =
    cond (fits && leb message_octets (length target))
    (record { answer = Done; target = octets ++ mic ++ drop message_octets target })
    (record { answer = NotWritten; target = target })

unfoldable pub written : List ℕ → UpstreamMessage → List ℕ → List ℕ → MessageLeft
written installed message id target =
    let octets = upstream_octets_lem message id in
    let key = key_for Upstream (upstream_address message) (upstream_type message) installed in
    laid (mic_of key Upstream octets) (fitting message) octets target

-- the same by a lent table and prepared keys, for every table and prepared key; for the true ones proofs/RoundTrip has
-- `written_prepared`
abbrev pub laid_by : Prepared → Direction → Bool → List ℕ → List ℕ → MessageLeft
laid_by key direction fits octets target = laid (mac64_by key (covered direction octets)) fits octets target

unfoldable pub written_by : Prepared → Prepared → UpstreamMessage → List ℕ → List ℕ → MessageLeft
written_by usual installed message id target =
    let key = cond (by_default_lem Upstream (upstream_address message) (upstream_type message)) usual installed in
    laid_by key Upstream (fitting message) (upstream_octets_lem message id) target

-- what a call leaves; and the octets that it was to write are octets
pub record Leaves (due : MessageLeft) (octets : List ℕ) (left : MessageLeft) : Type 0 where
  pub made : left ≡ due
  pub known : Octets octets
