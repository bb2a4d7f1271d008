-- All stretches of a frame are each of them: the list's entries are what the call for one gives.
-- Assumes nothing.
use Prim.Native.Nat.{ℕ, zero, suc, ◌+◌, ◌*◌, ◌/◌, ◌≤◌, ◌<◌, zero-le}
use native.Mathlib.Nat.{not-suc-le-zero, le_of_suc-le-suc}
use native.Mathlib.Omega.{arith}
use mathlib.Core.Path.{◌≡◌, ◌∙◌, refl, sym, ap}
use mathlib.Core.Bool.{Bool, true, false, cond, not}
use mathlib.Core.List.{List, [], ◌∷◌, ◌++◌}
use lib.ListN.{length, get_or, take, drop}
use lib.Seq.{take_all}
use Rattle.ids.specs.declared.PortId.{PortId}
use Rattle.ids.specs.Ids.{management_port_lem}
use Rattle.xgtc.specs.declared.hlend.Hlend.{Hlend}
use Rattle.xgtc.specs.Reads.{read_hlend_lem}
use Rattle.station.specs.declared.Station.{Station}
use Rattle.answers.specs.declared.Answer.{Answer}
use Rattle.answers.specs.declared.Answer.TheVariants.{Done, StateOutOfRange, FrameLengthUnfit, BufferTooShort}
use Rattle.station.specs.States.{is_operating_lem}
use Rattle.validity.specs.Ranges.{in_range}
use Rattle.payload.specs.Memory.{put}
use Rattle.payload.proofs.Put.{put-after}
use Rattle.stretches.specs.declared.Extent.{Extent}
use Rattle.stretches.specs.declared.Placed.{Placed}
use Rattle.stretches.specs.Stretch.{no_extent, extents_of, lost_in, stretch_of, numbers, room_in, Listed, list_of}
use Rattle.stretches.proofs.Listing.{length-numbers}
use Rattle.stretches.proofs.Few.{stretches-few}
use Rattle.downstream.specs.declared.Opening.{Opening}
use Rattle.downstream.specs.declared.Opening.TheVariants.{Refused, Unread, Opened}
use Rattle.downstream.specs.Lengths.{length_fits_lem}
use Rattle.downstream.specs.Partitions.{header_end_lem}
use Rattle.downstream.specs.Opening.{by_hlend_lem, opening}
use Rattle.engine.specs.declared.stretching.StretchPlace.{StretchPlace}
use Rattle.engine.specs.Stretch.{empty, answer_if_lem, place_in, place_by, stretch_place_lem, PlacesLeft, no_places, all_places, places_in_lem, places_fit, places_by, stretch_places_lem}
use Rattle.engine.specs.Each.{EachStretch}

-- ---- the list has room for all of them
pub room_for_all : (own : PortId) (s : Station) (begins : ℕ) (f places : List ℕ) → length f / 8 ≤ length places
    → take (room_in places) (extents_of own s.ports begins f) ≡ extents_of own s.ports begins f
room_for_all own s begins f places h = take_all (room_in places) (extents_of own s.ports begins f) (omega (arith, stretches-few own s.ports begins f))

-- what the search lists, as the call tells it
pub all_placed
    : (s : Station) (h : Hlend) (f places : List ℕ) → length f / 8 ≤ length places → (own : PortId) (begins : ℕ) (p : Placed) (left : List ℕ) (answer : Answer)
    → is_operating_lem s.activation ≡ true → own ≡ management_port_lem s.link.onu → begins ≡ header_end_lem h
    → record { placed = p; places = left } ≡ list_of own s.ports begins f 0 places → answer ≡ answer_if_lem p.lost
    → ◌≡◌ {A = PlacesLeft} (record { found = record { answer = answer; count = p.count }; places = left }) (places_in_lem s h f places)
unfolding places_in_lem list_of
all_placed s h f places room own begins p left answer operates mine e q n =
    ap {B = PlacesLeft} (λ (x : Answer). record { found = record { answer = x; count = p.count }; places = left }) n
    ∙ ap (λ (l : Listed). record { found = record { answer = answer_if_lem l.placed.lost; count = l.placed.count }; places = l.places }) q
    ∙ ap (λ (ts : List Extent). all_places ts (lost_in begins f) places) (room_for_all own s begins f places room)
    ∙ rw (operates, mine, e)

-- ---- the numbers of an entry
entry : (ts : List Extent) (rest : List ℕ) (k : ℕ) → k < length ts
    → (get_or (numbers ts ++ rest) (2 * k) 0 ≡ (get_or ts k no_extent).at) × (get_or (numbers ts ++ rest) (2 * k + 1) 0 ≡ (get_or ts k no_extent).bytes)
entry [] rest k h = absurd (not-suc-le-zero h)
entry (t ∷ ts) rest zero h = (refl, refl)
entry (t ∷ ts) rest (suc k) h =
    let i = entry ts rest k (le_of_suc-le-suc h) in
    let a : 2 * suc k ≡ suc (suc (2 * k)) = omega arith in
    let b : 2 * suc k + 1 ≡ suc (suc (2 * k + 1)) = omega arith in
    (rw a i.0, rw b i.1)

past : (ts : List Extent) (k : ℕ) → length ts ≤ k → get_or ts k no_extent ≡ no_extent
past [] k h = refl
past (t ∷ ts) zero h = absurd (not-suc-le-zero h)
past (t ∷ ts) (suc k) h = past ts k (le_of_suc-le-suc h)

module _ (s : Station) (f places : List ℕ) where
  -- nothing is listed, and each is empty
  none_each : (answer : Answer) (o : Opening) → opening s f true ≡ o → ((k : ℕ) → place_by o s f k ≡ empty answer) → EachStretch s f places (no_places answer places)
  unfolding stretch_place_lem
  none_each answer o e each = record {
    entries = λ k h. absurd (not-suc-le-zero h);
    none = λ k h. ap (λ (x : Opening). place_by x s f k) e ∙ each k;
    rest = refl;
  }

  module _ (h : Hlend) (e : opening s f true ≡ Opened h) where
    abbrev ts : List Extent
    ts = extents_of (management_port_lem s.link.onu) s.ports (header_end_lem h) f

    abbrev by : ℕ → ℕ → StretchPlace
    by at bytes = record { answer = answer_if_lem (lost_in (header_end_lem h) f); at = at; bytes = bytes }

    single : (k : ℕ) → stretch_place_lem s f k ≡ place_in s h f k
    unfolding stretch_place_lem
    single k = ap (λ (x : Opening). place_by x s f k) e

    not-operating : is_operating_lem s.activation ≡ false → (k : ℕ) → place_in s h f k ≡ empty Done
    unfolding place_in
    not-operating o k = rw o

    found : is_operating_lem s.activation ≡ true → (k : ℕ) → place_in s h f k ≡ by (get_or ts k no_extent).at (get_or ts k no_extent).bytes
    unfolding place_in stretch_of
    found o k = rw o

    listed_at : (k : ℕ) → k < length ts → by (get_or ts k no_extent).at (get_or ts k no_extent).bytes ≡ by (get_or (put places 0 (numbers ts)) (2 * k) 0) (get_or (put places 0 (numbers ts)) (2 * k + 1) 0)
    unfolding put
    listed_at k l =
        let i = entry ts (drop (0 + length (numbers ts)) places) k l in
        λ j. by (sym i.0 j) (sym i.1 j)

    opened-each : EachStretch s f places (places_in_lem s h f places)
    unfolding places_in_lem
    opened-each = go (is_operating_lem s.activation) refl
      where
        go : (b : Bool) → is_operating_lem s.activation ≡ b → EachStretch s f places (cond b (all_places ts (lost_in (header_end_lem h) f) places) (no_places Done places))
        go false o = none_each Done (Opened h) e (not-operating o)
        go true o = record {
          entries = λ k l. single k ∙ found o k ∙ listed_at k l;
          none = λ k l. single k ∙ found o k ∙ ap (λ (t : Extent). by t.at t.bytes) (past ts k l);
          rest = put-after places 0 (numbers ts) (2 * length ts) zero-le (omega (arith, length-numbers ts));
        }

  pub each-by : (o : Opening) → opening s f true ≡ o → EachStretch s f places (places_by o s f places)
  each-by (Refused answer) e = none_each answer (Refused answer) e (λ k. refl)
  each-by (Unread answer) e = none_each answer (Unread answer) e (λ k. refl)
  each-by (Opened h) e = opened-each h e

  -- wherever the list has room, or something else refuses the call before
  pub all_each : ((stretch_places_lem s f places).found.answer ≡ BufferTooShort → ⊥) → EachStretch s f places (stretch_places_lem s f places)
  unfolding stretch_places_lem opening
  all_each = go (in_range s) refl (length_fits_lem (length f)) refl (places_fit f places)
    where
      go
          : (a : Bool) → in_range s ≡ a → (b : Bool) → length_fits_lem (length f) ≡ b → (c : Bool)
          → let o = cond (not a) (Refused StateOutOfRange) (cond (not b) (Refused FrameLengthUnfit) (cond (not c) (Refused BufferTooShort) (by_hlend_lem (read_hlend_lem f) (length f)))) in
          ((places_by o s f places).found.answer ≡ BufferTooShort → ⊥) → EachStretch s f places (places_by o s f places)
      go false p b q c n = each-by (Refused StateOutOfRange) (rw p)
      go true p false q c n = each-by (Refused FrameLengthUnfit) (rw (p, q))
      go true p true q false n = absurd (n refl)
      go true p true q true n = each-by (by_hlend_lem (read_hlend_lem f) (length f)) (rw (p, q))
