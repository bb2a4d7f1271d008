-- Each message of a frame is found genuine or not apart from the others, by the key held when the frame arrived.
-- Assumes nothing.
use Prim.Native.Nat.{ℕ}
use mathlib.Core.Path.{◌≡◌, ◌∙◌, refl, sym, ap}
use mathlib.Core.Bool.{Bool, true, false, cond}
use mathlib.Core.List.{List, [], ◌∷◌}
use mathlib.Core.Logic.{◌⊎◌, inl, inr}
use lib.Dec.{ltb}
use lib.ListN.{length}
use Rattle.std.specs.Prelude.{None, Option, Some}
use Rattle.ploam.specs.declared.Message.{Message}
use Rattle.ids.specs.Ids.{same_onu, broadcast_onu}
use Rattle.ploam.specs.Layout.{message_octets, address_of}
use Rattle.ploam.specs.Reading.{message_of, received}
use Rattle.integrity.specs.Integrity.{installed_key_lem, genuine}
use Rattle.integrity.proofs.WhichKey.{broadcast_apart}
use Rattle.link.specs.declared.Key.{Key}
use Rattle.station.specs.declared.Station.{Station}
use Rattle.decisions.specs.Decisions.{is_broadcast}
use Rattle.decisions.proofs.Resting.{resting, act-forgets, act_rests, directed_rests}
use Rattle.messages.specs.Receiving.{acting, receive, receive_all, act_all}

-- which messages are genuine while this key is held
abbrev by : Key → List ℕ → Bool
by k m = genuine (installed_key_lem k.held k.octets) m

-- the key of the start is still held, or the station rests
abbrev Held : Key → Station → Type 0
Held k s = (s.link.key ≡ k) ⊎ (resting s.activation ≡ true)

-- ---- in O1 and O7 whatever key is held finds the same

rests_alike
    : (s : Station) (m : List ℕ) (g h : Bool) → resting s.activation ≡ true → (same_onu (address_of m) broadcast_onu ≡ true → g ≡ h)
    → acting s g (received m) ≡ acting s h (received m)
unfolding received is_broadcast
rests_alike s m g h r e = short (ltb (length m) message_octets)
  where
    whole : (b : Bool) → same_onu (address_of m) broadcast_onu ≡ b → acting s g (Some (message_of m)) ≡ acting s h (Some (message_of m))
    whole true p = ap (λ (x : Bool). acting s x (Some (message_of m))) (e p)
    whole false p = directed_rests s g (message_of m) r p ∙ sym (directed_rests s h (message_of m) r p)

    short : (b : Bool) → acting s g (cond b None (Some (message_of m))) ≡ acting s h (cond b None (Some (message_of m)))
    short true = refl
    short false = whole (same_onu (address_of m) broadcast_onu) refl

one_apart : (k : Key) (s : Station) (m : List ℕ) → Held k s → receive s m ≡ acting s (by k m) (received m)
unfolding receive
one_apart k s m (inl e) = ap (λ (x : Key). acting s (by x m) (received m)) e
one_apart k s m (inr r) = rests_alike s m (by s.link.key m) (by k m) r (broadcast_apart _ _ m)

-- ---- and it stays so

held_on : (k : Key) (s : Station) (g : Bool) (r : Option Message) → Held k s → Held k (acting s g r)
held_on k s g (Some message) (inl e) = forgets (act-forgets s g message)
  where
    forgets : ((acting s g (Some message)).link.key ≡ s.link.key) ⊎ (resting (acting s g (Some message)).activation ≡ true) → Held k (acting s g (Some message))
    forgets (inl p) = inl (p ∙ e)
    forgets (inr p) = inr p
held_on k s g (Some message) (inr r) = inr (act_rests s g message r)
held_on k s g None h = h

all_apart : (k : Key) (s : Station) (l : List (List ℕ)) → Held k s → receive_all s l ≡ act_all (by k) s l
all_apart k s [] h = refl
all_apart k s (m ∷ l) h =
    ap (λ (x : Station). receive_all x l) (one_apart k s m h) ∙ all_apart k (acting s (by k m) (received m)) l (held_on k s (by k m) (received m) h)

-- for every station and all messages: no key comes between the messages of a frame, and where it is forgotten only
-- broadcasts act until the frame is over, which the default key checks
pub found-apart
    : (s : Station) (l : List (List ℕ))
    → receive_all s l ≡ act_all (genuine (installed_key_lem s.link.key.held s.link.key.octets)) s l
found-apart s l = all_apart s.link.key s l (inl refl)
