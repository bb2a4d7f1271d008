-- What stands in the target after each way out of the writer.
-- Assumes nothing.
use mathlib.Core.Path.{◌≡◌, ◌∙◌, refl, sym, ap, ap₂, subst}
use mathlib.Core.Bool.{Bool, true, cond}
use mathlib.Core.List.{List, ◌++◌}
use Prim.Native.Nat.{ℕ, ◌+◌, ◌≤◌}
use native.Mathlib.Omega.{arith}
use lib.Dec.{leb}
use lib.ListN.{length, drop}
use lib.Seq.{paste, take_all, take_at, drop-append-add, drop-drop}
use borrow.Author.Tests.{le-leb}
use Rattle.ids.specs.declared.OnuId.{OnuId}
use Rattle.aes.specs.Words.{Octets}
use Rattle.cmac.specs.declared.Prepared.{Prepared}
use Rattle.ploam.specs.Layout.{message_octets, covered_octets, type_of}
use Rattle.integrity.specs.Integrity.{by_default_lem}
use Rattle.integrity.specs.declared.Direction.TheVariants.{Upstream}
use Rattle.ploamu.specs.Upstream.{upstream_address, upstream_type, upstream_octets_lem, fitting}
use Rattle.ploamu.specs.Writing.{MessageLeft, laid, laid_by, written_by, Leaves}
use Rattle.ploamu.specs.declared.UpstreamMessage.{UpstreamMessage}
use Rattle.answers.specs.declared.Answer.TheVariants.{Done}

-- one copy after the other
pasted : (mic octets target : List ℕ) → length octets ≡ covered_octets → length mic ≡ 8
    → paste (paste target 0 octets covered_octets) covered_octets mic 8 ≡ octets ++ mic ++ drop message_octets target
pasted mic octets target lo lm =
    let after = octets ++ drop covered_octets target in
    ap (λ (l : List ℕ). paste (l ++ drop covered_octets target) covered_octets mic 8) (take_all covered_octets octets (omega arith))
    ∙ ap₂ (λ (a b : List ℕ). a ++ b ++ drop message_octets after) (take_at octets (drop covered_octets target) covered_octets lo)
    (take_all 8 mic (omega arith))
    ∙ ap (λ (r : List ℕ). octets ++ mic ++ r)
    (ap (λ (n : ℕ). drop (n + 8) after) (sym lo)
    ∙ drop-append-add octets (drop covered_octets target) 8
    ∙ drop-drop 8 covered_octets target)

pub laid_done : (mic octets target first second : List ℕ) (fits : Bool) → fits ≡ true → message_octets ≤ length target
    → length octets ≡ covered_octets → length mic ≡ 8 → first ≡ paste target 0 octets (length octets)
    → second ≡ paste first covered_octets mic (length mic)
    → ◌≡◌ {A = MessageLeft} (record { answer = Done; target = second }) (laid mic fits octets target)
laid_done mic octets target first second fits e h lo lm p q =
    simp (e, le-leb message_octets (length target) h)
    (ap (λ (l : List ℕ). record { answer = Done; target = l })
    (q ∙ ap₂ (λ (l : List ℕ) (n : ℕ). paste l covered_octets mic n) (p ∙ ap (paste target 0 octets) lo) lm
    ∙ pasted mic octets target lo lm))

pub type_laid : (message : UpstreamMessage) (id : List ℕ) → type_of (upstream_octets_lem message id) ≡ upstream_type message
unfolding upstream_octets_lem
type_laid message id = refl

pub write_of : (usual installed key : Prepared) (message : UpstreamMessage) (id target b : List ℕ) (onu : OnuId)
    (left : MessageLeft) → b ≡ upstream_octets_lem message id → onu ≡ upstream_address message
    → key ≡ cond (by_default_lem Upstream (upstream_address message) (upstream_type message)) usual installed
    → left ≡ laid_by key Upstream (leb onu.0 1023) b target → Octets b
    → Leaves (written_by usual installed message id target) (upstream_octets_lem message id) left
unfolding written_by
write_of usual installed key message id target b onu left pb po pk made known =
    record {
      made =
          made
          ∙ ap (λ (o : OnuId). laid_by key Upstream (leb o.0 1023) b target) po
          ∙ ap₂ (λ (k : Prepared) (l : List ℕ). laid_by k Upstream (fitting message) l target) pk pb;
      known = subst Octets pb known;
    }
