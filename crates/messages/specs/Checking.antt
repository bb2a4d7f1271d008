-- What is known of a frame's messages: the verdicts of a window of them.
-- Assumes nothing.
use Rattle.std.specs.Prelude.{ℕ, zero, suc, ◌+◌, ◌-◌, ◌≤◌, ◌<◌, ◌≡◌, Bool, List, ◌⊎◌, length, set}
use Rattle.aes.specs.Cipher.{at}
use Rattle.cmac.specs.declared.Prepared.{Prepared}
use Rattle.ploam.specs.Layout.{message_at, address_of, type_of}
use Rattle.integrity.specs.Integrity.{by_default_lem, genuine_by}
use Rattle.integrity.specs.Rights.{mark_of_lem}
use Rattle.integrity.specs.declared.Direction.TheVariants.{Downstream}

-- messages of a window, and those that are checked side by side
abbrev pub window_messages : ℕ
window_messages = 64

abbrev pub side_by_side : ℕ
side_by_side = 8

-- the mark of message p
abbrev pub verdict_at : Prepared → Prepared → List ℕ → ℕ → ℕ
verdict_at usual installed b p = mark_of_lem (genuine_by usual installed (message_at b p))

-- message p is checked by the default key
abbrev pub by_usual_lem : List ℕ → Bool
by_usual_lem m = by_default_lem Downstream (address_of m) (type_of m)

-- of each message of the window from message `base` on the verdict is known, or nothing
pub record Known (verdict : ℕ → ℕ) (base : ℕ) (marks : List ℕ) : Type 0 where
  pub whole : length marks ≡ window_messages
  pub marked : (d : ℕ) → d < window_messages → (at marks d ≡ 0) ⊎ (at marks d ≡ verdict (base + d))

-- message p is of the window
abbrev pub Within : ℕ → ℕ → Type 0
Within base p = (base ≤ p) × (p < base + window_messages)

-- message i, of n, can be asked for
pub record Askable (verdict : ℕ → ℕ) (n base i : ℕ) (marks : List ℕ) : Type 0 where
  pub past : base ≤ i
  pub there : i < n
  pub known : Known verdict base marks

-- what is known has message i in it
pub record Told (verdict : ℕ → ℕ) (base i : ℕ) (marks : List ℕ) : Type 0 where
  pub within : Within base i
  pub known : Known verdict base marks
  pub told : at marks (i - base) ≡ verdict i

-- places of the window, the first of them i, all of messages that one key checks
pub record Gathered (usual : Bool) (b : List ℕ) (base i : ℕ) (places : List ℕ) (count : ℕ) : Type 0 where
  pub first : at places 0 ≡ i
  pub some : 0 < count
  pub most : count ≤ side_by_side
  pub within : (j : ℕ) → j < side_by_side → Within base (at places j)
  pub alike : (j : ℕ) → j < side_by_side → by_usual_lem (message_at b (at places j)) ≡ usual

-- the marks found for k places, from the j-th on, are entered
abbrev pub entered : ℕ → List ℕ → List ℕ → ℕ → ℕ → List ℕ → List ℕ
entered base places found j zero marks = marks
entered base places found j (suc k) marks = entered base places found (j + 1) k (set marks (at places j - base) (at found j))
