-- A count over messages, one after the other; and that the true table and keys count what is genuine.
-- Assumes nothing.
use mathlib.Core.Path.{◌≡◌, refl, ap, ap₂}
use mathlib.Core.Bool.{Bool, true, false}
use mathlib.Core.List.{List}
use Prim.Native.Nat.{ℕ, zero, suc, ◌+◌, ◌-◌, ◌*◌, ◌≤◌, ◌<◌}
use native.Mathlib.Omega.{arith}
use lib.ListN.{length, drop}
use lib.Seq.{get_or-drop}
use Rattle.std.specs.Int.{from_bool}
use Rattle.aes.specs.Words.{Octets, words_of}
use Rattle.cmac.specs.declared.Prepared.{Prepared}
use Rattle.cmac.specs.Tags.{prepared_by}
use Rattle.ploam.specs.Layout.{message_octets, message_at}
use Rattle.integrity.specs.Integrity.{default_key_lem, genuine_by}
use Rattle.integrity.proofs.Keys.{octets-take, genuine_prepared}
use Rattle.messages.specs.Receiving.{messages_from}
use Rattle.bench_exports.specs.Messages.{one_if_lem, genuine_count, genuine_count_by}

-- a message counts 1, or 0
pub counted_one : (b : Bool) (x : ℕ) → x ≡ from_bool b → (x ≡ one_if_lem b) × (x ≤ 1)
counted_one true x e = (e, omega (arith, e))
counted_one false x e = (e, omega (arith, e))

module _ (usual installed : Prepared) (b : List ℕ) (n i sum : ℕ) where
  pub counted : (x : ℕ) → i < n → x ≡ one_if_lem (genuine_by usual installed (message_at b i))
      → sum + x + genuine_count_by usual installed (messages_from b (i + 1) (n - (i + 1))) ≡ sum + genuine_count_by usual installed (messages_from b i (n - i))
  counted x h hx = let e : n - i ≡ suc (n - (i + 1)) = omega arith in rw (e, hx) (omega arith)

  pub counted_all : n ≤ i → sum ≡ sum + genuine_count_by usual installed (messages_from b i (n - i))
  counted_all h = let e : n - i ≡ 0 = omega arith in rw e (omega arith)

octets-drop : (n : ℕ) (l : List ℕ) → Octets l → Octets (drop n l)
octets-drop n l o i = rw (get_or-drop n l i 0) (o (n + i))

pub count_true : (key b : List ℕ) → Octets key → length key ≡ 16 → Octets b → (k i : ℕ)
    → genuine_count_by (prepared_by (words_of default_key_lem)) (prepared_by (words_of key)) (messages_from b i k) ≡ genuine_count key (messages_from b i k)
count_true key b ok h o zero i = refl
count_true key b ok h o (suc k) i =
    let om : Octets (message_at b i) = octets-take message_octets (drop (message_octets * i) b) (octets-drop (message_octets * i) b o) in
    ap₂ ◌+◌ (ap one_if_lem (genuine_prepared key (message_at b i) ok h om)) (count_true key b ok h o k (i + 1))
