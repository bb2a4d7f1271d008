-- The replies, one at a time.
-- Assumes nothing.
use Prim.Native.Nat.{ℕ, suc, min, ◌+◌, ◌-◌, ◌*◌, ◌/◌, ◌^◌, ◌≤◌, ◌<◌}
use mathlib.Core.Path.{◌≡◌, ◌∙◌, refl, ap}
use mathlib.Core.List.{List}
use native.Mathlib.Omega.{arith}
use Rattle.aes.specs.Words.{words_of}
use Rattle.cmac.specs.Tags.{prepared_by}
use Rattle.cmac.specs.declared.Prepared.{Prepared}
use Rattle.integrity.specs.Integrity.{default_key_lem}
use Rattle.ploamu.specs.declared.UpstreamMessage.{UpstreamMessage}
use Rattle.ploamu.specs.Upstream.{upstream_octets_lem}
use Rattle.ploamu.specs.Writing.{MessageLeft, Leaves, written, written_by}
use Rattle.ploamu.proofs.RoundTrip.{written_prepared}
use Rattle.station.specs.declared.Activation.{Activation}
use Rattle.station.specs.declared.Activation.TheVariants.{Initial, SerialNumber, Ranging, Operation, Intermittent, EmergencyStop}
use Rattle.station.specs.declared.Station.{Station}
use Rattle.link.specs.declared.Key.{Key}
use Rattle.messages.specs.Receiving.{Installed}
use Rattle.replies.specs.Replying.{after_in, after_reply_lem}
use Rattle.messages.proofs.Receiving.{key_is}
use Rattle.replies.specs.Replies.{key_of, in_place, replies_from, Keyed}

-- what the prepared keys write is what the station's key would
pub written_true
    : (usual installed : Prepared) (k : Key) (m : UpstreamMessage) (id target : List ℕ) (left : MessageLeft)
    → Keyed usual installed k → Leaves (written_by usual installed m id target) (upstream_octets_lem m id) left
    → left.target ≡ (written (key_of k) m id target).target
written_true usual installed k m id target left h w =
    ap (λ (o : MessageLeft). o.target)
    (w.made
    ∙ ap (λ (u : Prepared). written_by u installed m id target) h.default
    ∙ ap (λ (u : Prepared). written_by (prepared_by (words_of default_key_lem)) u m id target) h.own
    ∙ written_prepared (key_of k) m id target h.octets h.sixteen w.known)

-- a reply leaves the key
after-key : (a : Activation) (s : Station) → (after_in a s).link.key ≡ s.link.key
after-key Initial s = refl
after-key SerialNumber s = refl
after-key (Ranging left) s = refl
after-key Operation s = refl
after-key (Intermittent left) s = refl
after-key EmergencyStop s = refl

pub keyed-after : (u p : Prepared) (s : Station) → Keyed u p s.link.key → Keyed u p (after_reply_lem s).link.key
unfolding after_reply_lem
keyed-after u p s h = rw (after-key s.activation s) h

pub replies-turn
    : (s : Station) (delay : ℕ) (b : List ℕ) (n i : ℕ) (r : Station) (c : List ℕ) → i < n → r ≡ after_reply_lem s → c ≡ in_place s delay b i
    → replies_from r delay c (i + 1) (n - (i + 1)) ≡ replies_from s delay b i (n - i)
replies-turn s delay b n i r c h hr hc = let e : n - i ≡ suc (n - (i + 1)) = omega arith in rw (e, hr, hc)

pub replies_end
    : (s : Station) (delay : ℕ) (b : List ℕ) (n i : ℕ) → n ≤ i → record { station = s; octets = b } ≡ replies_from s delay b i (n - i)
replies_end s delay b n i h = let e : n - i ≡ 0 = omega arith in rw e

-- the prepared keys are those of a station, whether it holds a key or none
pub keyed : (u p : Prepared) (k : Key) → u ≡ prepared_by (words_of default_key_lem) → Installed u k p → Keyed u p k
keyed u p k e h =
    let f = key_is u k p e h in
    record { default = e; own = f.0; octets = f.1; sixteen = f.2 }

-- as many as there is room for
pub room_for : (n k b : ℕ) → k ≡ min n (b / 48) → b < 2 ^ 64 → (48 * k ≤ b) × (k < 2 ^ 63)
room_for n k b e h = (omega arith, omega arith)
