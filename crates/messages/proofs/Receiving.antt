-- The messages of a frame, one at a time; and that the prepared keys check what the key held then would.
-- Assumes nothing.
use Prim.Native.Nat.{ℕ, zero, suc, ◌+◌, ◌-◌, ◌*◌, ◌≤◌, ◌<◌}
use mathlib.Core.Path.{◌≡◌, ◌∙◌, refl, sym, ap}
use mathlib.Core.Bool.{Bool, true, false}
use mathlib.Core.List.{List}
use native.Mathlib.Omega.{arith}
use lib.ListN.{length, drop}
use lib.Seq.{get_or-drop}
use Rattle.aes.specs.Words.{words_of, Octets}
use Rattle.cmac.specs.Tags.{prepared_by}
use Rattle.cmac.specs.declared.Prepared.{Prepared}
use Rattle.ploam.specs.Layout.{message_octets, message_at}
use Rattle.ploam.specs.Reading.{received}
use Rattle.integrity.specs.Integrity.{default_key_lem, installed_key_lem, genuine, genuine_by}
use Rattle.integrity.proofs.Keys.{octets-take, default_octets, genuine_prepared}
use Rattle.station.specs.declared.Station.{Station}
use Rattle.link.specs.declared.Key.{Key}
use Rattle.messages.specs.Receiving.{acting, messages_from, receive_all, act_all, received_by, received_each_by, Installed}
use Rattle.messages.proofs.Apart.{found-apart}

-- ---- one turn

module _ (usual installed : Prepared) (b : List ℕ) (n i : ℕ) (s : Station) where
  pub each_turn
      : (r : Station) → i < n → r ≡ received_by usual installed s (message_at b i)
      → received_each_by usual installed r (messages_from b (i + 1) (n - (i + 1)))
      ≡ received_each_by usual installed s (messages_from b i (n - i))
  each_turn r h hr = let e : n - i ≡ suc (n - (i + 1)) = omega arith in rw (e, hr)

  pub each_end : n ≤ i → s ≡ received_each_by usual installed s (messages_from b i (n - i))
  each_end h = let e : n - i ≡ 0 = omega arith in rw e

-- ---- the key held is the one prepared

abbrev usual : Prepared
usual = prepared_by (words_of default_key_lem)

-- the key held, or the default where none is, is prepared
abbrev pub KeyIs : Prepared → Key → Type 0
KeyIs p k =
    (p ≡ prepared_by (words_of (installed_key_lem k.held k.octets))) × (Octets (installed_key_lem k.held k.octets)) × (length (installed_key_lem k.held k.octets) ≡ 16)

pub key_is : (u : Prepared) (k : Key) (p : Prepared) → u ≡ usual → Installed u k p → KeyIs p k
key_is u k p eu h = go k.held refl
  where
    go : (b : Bool) → k.held ≡ b → (p ≡ prepared_by (words_of (installed_key_lem b k.octets))) × (Octets (installed_key_lem b k.octets)) × (length (installed_key_lem b k.octets) ≡ 16)
    go true e = let r = h.own e in (r.0.made, r.0.octets, r.1)
    go false e = (h.none e ∙ eu, default_octets, refl)

octets-drop : (n : ℕ) (l : List ℕ) → Octets l → Octets (drop n l)
octets-drop n l o i = rw (get_or-drop n l i 0) (o (n + i))

-- for every run of messages, the code's check is that of the key
all_true
    : (key : List ℕ) (p : Prepared) (b : List ℕ) → p ≡ prepared_by (words_of key) → Octets key → length key ≡ 16 → Octets b → (k i : ℕ) (s : Station)
    → received_each_by usual p s (messages_from b i k) ≡ act_all (genuine key) s (messages_from b i k)
unfolding received_by
all_true key p b e ok l o zero i s = refl
all_true key p b e ok l o (suc k) i s =
    let m = message_at b i in
    let om : Octets m = octets-take message_octets (drop (message_octets * i) b) (octets-drop (message_octets * i) b o) in
    let g : genuine_by usual p m ≡ genuine key m = ap (λ (q : Prepared). genuine_by usual q m) e ∙ genuine_prepared key m ok l om in
    ap (λ (x : Bool). received_each_by usual p (acting s x (received m)) (messages_from b (i + 1) k)) g
    ∙ all_true key p b e ok l o k (i + 1) (acting s (genuine key m) (received m))

-- so it is that of the key held as each is considered
pub each_true
    : (p : Prepared) (b : List ℕ) → Octets b → (k i : ℕ) (s : Station) → KeyIs p s.link.key
    → received_each_by usual p s (messages_from b i k) ≡ receive_all s (messages_from b i k)
each_true p b o k i s h =
    all_true (installed_key_lem s.link.key.held s.link.key.octets) p b h.0 h.1 h.2 o k i s ∙ sym (found-apart s (messages_from b i k))
