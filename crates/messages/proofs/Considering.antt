-- A message that is considered does what it would do, by its verdict alone.
-- Assumes nothing.
use Prim.Native.Nat.{ℕ, ◌+◌, ◌-◌, ◌*◌}
use mathlib.Core.Path.{◌≡◌, ◌∙◌, refl, sym, ap}
use mathlib.Core.Bool.{Bool, true, false}
use mathlib.Core.List.{List}
use native.Mathlib.Omega.{arith}
use lib.ListN.{take, drop}
use Rattle.std.specs.Prelude.{None, Option, Some}
use Rattle.cmac.specs.declared.Prepared.{Prepared}
use Rattle.ploam.specs.declared.Message.{Message}
use Rattle.ploam.specs.Layout.{message_at}
use Rattle.ploam.specs.Reading.{received}
use Rattle.integrity.specs.Integrity.{genuine_by}
use Rattle.integrity.specs.Rights.{mark_of_lem}
use Rattle.station.specs.declared.Station.{Station}
use Rattle.effects.specs.declared.Effect.{Effect}
use Rattle.effects.specs.Effects.{ignored, is_ignored_lem}
use Rattle.effects.specs.Changes.{applied}
use Rattle.decisions.specs.Decisions.{decision}
use Rattle.decisions.specs.Acts.{act}
use Rattle.decisions.proofs.Acting.{act-genuine, act_forged, act-ignored}
use Rattle.messages.specs.Receiving.{received_by}
use Rattle.messages.specs.Checking.{verdict_at}

right_is : (g : Bool) → mark_of_lem g ≡ 1 → g ≡ true
right_is true e = refl
right_is false e = absurd (omega arith)

right_not : (g : Bool) → (mark_of_lem g ≡ 1 → ⊥) → g ≡ false
right_not true e = absurd (e refl)
right_not false e = refl

nothing : (s : Station) → applied s ignored ≡ s
unfolding applied
nothing s = refl

-- what is read of the message's octets, lent as a part
module _ (usual installed : Prepared) (s : Station) (b : List ℕ) (i : ℕ) (r : Option Message)
    (er : r ≡ received (take (48 * i + 48 - 48 * i) (drop (48 * i) b))) where
  read_there : r ≡ received (message_at b i)
  read_there =
      let e : 48 * i + 48 - 48 * i ≡ 48 = omega arith in
      er ∙ ap (λ (k : ℕ). received (take k (drop (48 * i) b))) e

  pub short_considered : (e : Effect) → r ≡ None → e ≡ ignored → applied s e ≡ received_by usual installed s (message_at b i)
  unfolding received_by
  short_considered e h ee = rw (ee, sym read_there ∙ h) (nothing s)

  module _ (m : Message) (e : Effect) (em : r ≡ Some m) (ee : e ≡ decision s m) where
    by-verdict : (x : Effect) (g : Bool) → genuine_by usual installed (message_at b i) ≡ g → applied s x ≡ act s g m → applied s x ≡ received_by usual installed s (message_at b i)
    unfolding received_by
    by-verdict x g eg h = rw (sym read_there ∙ em, eg) h

    pub none-considered : is_ignored_lem e ≡ true → applied s e ≡ received_by usual installed s (message_at b i)
    none-considered h =
        let g = genuine_by usual installed (message_at b i) in
        let n : is_ignored_lem (decision s m) ≡ true = ap is_ignored_lem (sym ee) ∙ h in
        by-verdict e g refl (ap (applied s) ee ∙ act-genuine s m ∙ act-ignored s true m n ∙ sym (act-ignored s g m n))

    pub right-considered
        : (v : ℕ) → v ≡ verdict_at usual installed b i → v ≡ 1 → applied s e ≡ received_by usual installed s (message_at b i)
    right-considered v ev h = by-verdict e true (right_is _ (sym ev ∙ h)) (ap (applied s) ee ∙ act-genuine s m)

    pub wrong-considered
        : (v : ℕ) (x : Effect) → v ≡ verdict_at usual installed b i → (v ≡ 1 → ⊥) → x ≡ ignored → applied s x ≡ received_by usual installed s (message_at b i)
    wrong-considered v x ev h ex =
        by-verdict x false (right_not _ (λ q. h (ev ∙ q))) (ap (applied s) ex ∙ nothing s ∙ sym (act_forged s m))
