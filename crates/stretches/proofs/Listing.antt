-- What holds at each turn of the search for stretches.
-- Assumes nothing.
use mathlib.Core.Path.{◌≡◌, refl, sym, ap, ap₂, ◌∙◌, subst}
use mathlib.Core.Bool.{Bool, true, false}
use mathlib.Core.List.{List, [], ◌∷◌, ◌++◌, append_assoc, append-nil}
use Prim.Native.Nat.{ℕ, zero, suc, ◌+◌, ◌-◌, ◌*◌, ◌≤◌, ◌<◌, zero-le}
use native.Mathlib.Nat.{suc-ne-zero, le_refl}
use native.Mathlib.Numerals.{add-one, sub-one}
use native.Mathlib.Omega.{arith}
use borrow.Author.Tests.{ne_eqb}
use lib.ListN.{length, get_or, set, take, drop, length-append, length-drop}
use lib.Seq.{take-nil, drop-nil, sets-eq}
use Rattle.std.specs.Prelude.{None, Option, Some}
use Rattle.ids.specs.declared.PortId.{PortId}
use Rattle.xgem.specs.declared.frame.XgemHeader.{XgemHeader}
use Rattle.xgem.specs.Layouts.{payload_size_lem}
use Rattle.ports.specs.declared.Ports.{Ports}
use Rattle.ports.specs.Limits.{added_ports}
use Rattle.fragments.specs.declared.Reassembly.{Reassembly}
use Rattle.fragments.specs.declared.Reassembly.TheVariants.{Ignored, Dropped, Delivered, Appended}
use Rattle.fragments.specs.Fragments.{reassembly_of_lem, ports_after}
use Rattle.fragments.proofs.Decided.{ids_after}
use Rattle.payload.specs.declared.frames.Next.TheVariants.{Done, Lost, Frame}
use Rattle.payload.specs.Frames.{next_of}
use Rattle.payload.specs.Memory.{put}
use Rattle.payload.proofs.Put.{put-put, put_none, length-put}
use Rattle.payload.proofs.Reading.{done-ahead}
use Rattle.payload.proofs.Walks.{frame-inside}
use Rattle.stretches.specs.declared.Extent.{Extent}
use Rattle.stretches.specs.declared.Placed.{Placed}
use Rattle.stretches.specs.declared.StretchPlace.{StretchPlace}
use Rattle.stretches.specs.declared.search.Search.{Search}
use Rattle.stretches.specs.Stretch.{no_extent, alone_at, extents_of, lost_in, stretch_of, numbers, room_in, Listed, listing, list_of}
use Rattle.stretches.specs.Search.{brought, Noted, noted}
use Rattle.stretches.proofs.Stretches.{lost_done, lost_lost, lost_next, extents-done, extents-lost, extents-next}

pub length-numbers : (ts : List Extent) → length (numbers ts) ≡ 2 * length ts
length-numbers [] = refl
length-numbers (t ∷ ts) = omega (arith, length-numbers ts)

numbers-append : (a b : List Extent) → numbers (a ++ b) ≡ numbers a ++ numbers b
numbers-append [] b = refl
numbers-append (t ∷ a) b = ap (λ (l : List ℕ). t.at ∷ (t.bytes ∷ l)) (numbers-append a b)

-- an entry, by its two numbers
pub set-two : (l : List ℕ) (i a b : ℕ) → i + 2 ≤ length l → set (set l i a) (i + 1) b ≡ put l i (a ∷ (b ∷ []))
unfolding put
set-two l i a b h = rw (add-one i) (sets-eq (a ∷ (b ∷ [])) l i h ∙ append_assoc (take i l) (a ∷ (b ∷ [])) _)

-- ---- what is listed so far, and what is still to come, are what is to be listed in all
record Run (places₀ : List ℕ) (all : List Extent) (ahead count : ℕ) (places : List ℕ) (rest : List Extent) : Type 0 where
  pub done : List Extent
  pub so_many : length done ≡ count
  pub room : count ≤ room_in places₀
  pub written : places ≡ put places₀ 0 (numbers done)
  pub whole : done ++ take (room_in places₀ - count) (drop ahead rest) ≡ all

run_note : (places₀ : List ℕ) (all : List Extent) (ahead count : ℕ) (places : List ℕ) (t : Extent) (rest : List Extent)
    → Run places₀ all ahead count places (t ∷ rest) → count < room_in places₀
    → let w = noted ahead count places t in Run places₀ all w.search.ahead w.search.count w.places rest
unfolding noted
run_note places₀ all zero count places t rest v h =
    record {
      done = v.done ++ (t ∷ []);
      so_many = length-append v.done (t ∷ []) ∙ ap (λ (n : ℕ). n + 1) v.so_many;
      room = omega arith;
      written =
          ap (λ (l : List ℕ). put l (2 * count) (numbers (t ∷ []))) v.written
          ∙ put-put places₀ 0 (numbers v.done) (numbers (t ∷ [])) (2 * count) (omega (arith, length-numbers v.done, v.so_many)) zero-le
          ∙ ap (put places₀ 0) (sym (numbers-append v.done (t ∷ [])));
      whole = append_assoc v.done (t ∷ []) _ ∙ ap (λ (n : ℕ). v.done ++ take n (t ∷ rest)) more ∙ v.whole;
    }
  where
    more : suc (room_in places₀ - (count + 1)) ≡ room_in places₀ - count
    more = omega arith
run_note places₀ all (suc a) count places t rest v h =
    rw (ne_eqb (suc a) 0 (suc-ne-zero a), sub-one (suc a)) (record { done = v.done; so_many = v.so_many; room = v.room; written = v.written; whole = v.whole })

-- nothing is still to come
run_end : (places₀ : List ℕ) (all : List Extent) (ahead count : ℕ) (places : List ℕ) (rest : List Extent) (lost : Bool)
    → Run places₀ all ahead count places rest → take (room_in places₀ - count) (drop ahead rest) ≡ []
    → ◌≡◌ {A = Listed} (record { placed = record { count = count; lost = lost }; places = places }) (listing all lost places₀)
run_end places₀ all ahead count places rest lost v e =
    let w : v.done ≡ all = sym (append-nil v.done) ∙ ap (λ (l : List Extent). v.done ++ l) (sym e) ∙ v.whole in
    let c : count ≡ length all = sym v.so_many ∙ ap length w in
    let p : places ≡ put places₀ 0 (numbers all) = v.written ∙ ap (λ (l : List Extent). put places₀ 0 (numbers l)) w in
    λ i. record { placed = record { count = c i; lost = lost }; places = p i }

-- ---- at index at of the frame
pub record Seen (own : PortId) (f : List ℕ) (p₀ : Ports) (begins first : ℕ) (places₀ : List ℕ) (p : Ports) (s : Search) (at : ℕ) (places : List ℕ) : Type 0 where
  pub inside : at ≤ length f
  pub ids : length p.ids ≡ added_ports
  run : Run places₀ (take (room_in places₀) (drop first (extents_of own p₀ begins f))) s.ahead s.count places (extents_of own p at f)
  lost : lost_in at f ≡ lost_in begins f

run-start : (places : List ℕ) (first : ℕ) (rest : List Extent) → Run places (take (room_in places) (drop first rest)) first 0 places rest
run-start places first rest =
    let z : room_in places - 0 ≡ room_in places = omega arith in
    record {
      done = [];
      so_many = refl;
      room = zero-le;
      written = sym (put_none places 0);
      whole = ap (λ (n : ℕ). take n (drop first rest)) z;
    }

pub seen_start : (own : PortId) (f : List ℕ) (p : Ports) (begins first : ℕ) (places : List ℕ) → length p.ids ≡ added_ports → begins ≤ length f
    → Seen own f p begins first places p (record { ahead = first; count = 0 }) begins places
seen_start own f p begins first places e h =
    record { inside = h; ids = e; run = run-start places first (extents_of own p begins f); lost = refl }

module _ (own : PortId) (f : List ℕ) (p₀ : Ports) (begins first : ℕ) (places₀ : List ℕ) (p : Ports) (s : Search) (at : ℕ) (places : List ℕ) (v : Seen own f p₀ begins first places₀ p s at places) where
  -- the list is as long as it was
  pub seen-length : length places ≡ length places₀
  seen-length =
      ap length v.run.written
      ∙ length-put places₀ 0 (numbers v.run.done) (omega (arith, length-numbers v.run.done, v.run.so_many, v.run.room))

  ended : (lost : Bool) → lost_in at f ≡ lost → take (room_in places₀ - s.count) (drop s.ahead (extents_of own p at f)) ≡ []
      → (r : Placed) → r ≡ record { count = s.count; lost = lost } → ◌≡◌ {A = Listed} (record { placed = r; places = places }) (list_of own p₀ begins f first places₀)
  unfolding list_of
  ended lost e n r q =
      ap (λ (x : Placed). record { placed = x; places = places }) q
      ∙ run_end places₀ _ s.ahead s.count places _ lost v.run n
      ∙ ap (λ (b : Bool). listing (take (room_in places₀) (drop first (extents_of own p₀ begins f))) b places₀) (sym e ∙ v.lost)

  none : extents_of own p at f ≡ [] → take (room_in places₀ - s.count) (drop s.ahead (extents_of own p at f)) ≡ []
  none e = ap (λ (l : List Extent). take (room_in places₀ - s.count) (drop s.ahead l)) e ∙ ap (take (room_in places₀ - s.count)) (drop-nil s.ahead) ∙ take-nil (room_in places₀ - s.count)

  pub seen_done : (extents_of own p at f ≡ []) × (lost_in at f ≡ false) → ◌≡◌ {A = Listed} (record { placed = record { count = s.count; lost = false }; places = places }) (list_of own p₀ begins f first places₀)
  seen_done e = ended false e.1 (none e.0) _ refl

  pub seen_lost : (extents_of own p at f ≡ []) × (lost_in at f ≡ true) → ◌≡◌ {A = Listed} (record { placed = record { count = s.count; lost = true }; places = places }) (list_of own p₀ begins f first places₀)
  seen_lost e = ended true e.1 (none e.0) _ refl

  -- there is no more room: only whether delineation is lost is still to be seen
  pub seen_full : room_in places₀ ≤ s.count → (r : Placed) → r ≡ record { count = s.count; lost = lost_in at f } → ◌≡◌ {A = Listed} (record { placed = r; places = places }) (list_of own p₀ begins f first places₀)
  seen_full h =
      let z : room_in places₀ - s.count ≡ 0 = omega arith in
      ended (lost_in at f) refl (ap (λ (n : ℕ). take n (drop s.ahead (extents_of own p at f))) z)

  pub seen_on : s.count < room_in places₀ → (t : Extent) (behind : ℕ) (q : Ports) → length q.ids ≡ added_ports
      → (extents_of own p at f ≡ t ∷ extents_of own q behind f) × (lost_in at f ≡ lost_in behind f) × (at < behind) × (behind ≤ length f)
      → (s' : Search) (places' : List ℕ) → record { search = s'; places = places' } ≡ noted s.ahead s.count places t
      → Seen own f p₀ begins first places₀ q s' behind places'
  seen_on h t behind q i n s' places' es =
      let all : List Extent = take (room_in places₀) (drop first (extents_of own p₀ begins f)) in
      let r : Run places₀ all s.ahead s.count places (t ∷ extents_of own q behind f) = subst (Run places₀ all s.ahead s.count places) n.0 v.run in
      record {
        inside = n.3;
        ids = i;
        run =
            subst (λ (w : Noted). Run places₀ all w.search.ahead w.search.count w.places (extents_of own q behind f)) (sym es)
            (run_note places₀ all s.ahead s.count places t (extents_of own q behind f) r h);
        lost = sym n.1 ∙ v.lost;
      }

-- ---- from frame to frame: none up to here has delivered
pub record Passed (own : PortId) (f : List ℕ) (p₀ : Ports) (from : ℕ) (p : Ports) (at : ℕ) : Type 0 where
  pub inside : at ≤ length f
  pub onward : from ≤ at
  pub ids : length p.ids ≡ added_ports
  rest : extents_of own p at f ≡ extents_of own p₀ from f
  lost : lost_in at f ≡ lost_in from f

pub passed_start : (own : PortId) (f : List ℕ) (p : Ports) (from : ℕ) → length p.ids ≡ added_ports → from ≤ length f → Passed own f p from p from
passed_start own f p from i h = record { inside = h; onward = le_refl from; ids = i; rest = refl; lost = refl }

never : {A : Type 0} → ◌≡◌ {A = ℕ} 0 1 → A
never z = absurd (omega arith)

was_nothing : (e : Reassembly) (at n : ℕ) → brought (alone_at e at n) ≡ None → alone_at e at n ≡ []
was_nothing Ignored at n q = refl
was_nothing (Dropped slot waits) at n q = refl
was_nothing (Delivered slot have) at n q = never cc
was_nothing (Appended slot have) at n q = refl

was_stretch : (e : Reassembly) (at n : ℕ) (t : Extent) → brought (alone_at e at n) ≡ Some t → alone_at e at n ≡ t ∷ []
was_stretch Ignored at n t q = never cc
was_stretch (Dropped slot waits) at n t q = never cc
was_stretch (Delivered slot have) at n t q = cc
was_stretch (Appended slot have) at n t q = never cc

module _ (own : PortId) (f : List ℕ) (p₀ : Ports) (from : ℕ) (p : Ports) (at : ℕ) (v : Passed own f p₀ from p at) where
  pub passed-done : next_of (drop at f) ≡ Done → (extents_of own p₀ from f ≡ []) × (lost_in from f ≡ false)
  passed-done e = (sym v.rest ∙ extents-done f at own p e, sym v.lost ∙ lost_done f at e)

  pub passed_lost : next_of (drop at f) ≡ Lost → (extents_of own p₀ from f ≡ []) × (lost_in from f ≡ true)
  passed_lost e = (sym v.rest ∙ extents-lost f at own p e, sym v.lost ∙ lost_lost f at e)

  module _ (x : XgemHeader) (n : next_of (drop at f) ≡ Frame x) (q : Ports) (eq : q ≡ ports_after p (reassembly_of_lem p own x.port x.last x.pli) x.pli) (b : Option Extent) (eb : b ≡ brought (alone_at (reassembly_of_lem p own x.port x.last x.pli) (at + 8) x.pli)) where
    abbrev what : Reassembly
    what = reassembly_of_lem p own x.port x.last x.pli

    behind : ℕ
    behind = at + 8 + payload_size_lem x.pli

    inside-behind : behind ≤ length f
    unfolding behind
    inside-behind = omega (arith, v.inside, length-drop at f, frame-inside (drop at f) x n)

    by : (ts : List Extent) → alone_at what (at + 8) x.pli ≡ ts → extents_of own p₀ from f ≡ ts ++ extents_of own q behind f
    unfolding behind
    by ts e =
        sym v.rest ∙ extents-next f at own p x n what refl
        ∙ ap₂ (λ (l : List Extent) (r : Ports). l ++ extents_of own r (at + 8 + payload_size_lem x.pli) f) e (sym eq)

    pub passed_on : b ≡ None → Passed own f p₀ from q (at + 8 + payload_size_lem x.pli)
    unfolding behind
    passed_on e =
        record {
          inside = inside-behind;
          onward = omega (arith, v.onward);
          ids = ap (λ (r : Ports). length r.ids) eq ∙ ap length (ids_after p what x.pli) ∙ v.ids;
          rest = sym (by [] (was_nothing what (at + 8) x.pli (sym eb ∙ e)));
          lost = sym (lost_next f at x n) ∙ v.lost;
        }

    pub passed-met : (t : Extent) → b ≡ Some t
        → (extents_of own p₀ from f ≡ t ∷ extents_of own q (at + 8 + payload_size_lem x.pli) f) × (lost_in from f ≡ lost_in (at + 8 + payload_size_lem x.pli) f) × (from < at + 8 + payload_size_lem x.pli) × (at + 8 + payload_size_lem x.pli ≤ length f)
    unfolding behind
    passed-met t e = (
      by (t ∷ []) (was_stretch what (at + 8) x.pli t (sym eb ∙ e)),
      sym v.lost ∙ lost_next f at x n,
      omega (arith, v.onward),
      inside-behind,
    )

-- ---- whether delineation is lost, from a place on
pub record Behind (f : List ℕ) (begins at : ℕ) : Type 0 where
  pub inside : at ≤ length f
  pub lost : lost_in at f ≡ lost_in begins f

module _ (f : List ℕ) (begins at : ℕ) (v : Behind f begins at) where
  pub behind-done : next_of (drop at f) ≡ Done → false ≡ lost_in begins f
  behind-done e = sym (lost_done f at e) ∙ v.lost

  pub behind_lost : next_of (drop at f) ≡ Lost → true ≡ lost_in begins f
  behind_lost e = sym (lost_lost f at e) ∙ v.lost

  module _ (x : XgemHeader) (e : next_of (drop at f) ≡ Frame x) where
    pub behind-fits : at + 8 + payload_size_lem x.pli ≤ length f
    behind-fits = omega (arith, v.inside, length-drop at f, frame-inside (drop at f) x e)

    pub behind-on : Behind f begins (at + 8 + payload_size_lem x.pli)
    behind-on = record { inside = behind-fits; lost = sym (lost_next f at x e) ∙ v.lost }

-- ---- one of them: a list of two numbers that are 0
first-listed : (ts : List Extent) (k : ℕ) → let l = put (0 ∷ (0 ∷ [])) 0 (numbers (take 1 (drop k ts))) in ◌≡◌ {A = Extent} (record { at = get_or l 0 0; bytes = get_or l 1 0 }) (get_or ts k no_extent)
unfolding put
first-listed [] zero = refl
first-listed [] (suc k) = refl
first-listed (t ∷ ts) zero = refl
first-listed (t ∷ ts) (suc k) = first-listed ts k

pub one-listed : (own : PortId) (f : List ℕ) (p : Ports) (begins k : ℕ) (r : Placed) (l : List ℕ) → record { placed = r; places = l } ≡ list_of own p begins f k (0 ∷ (0 ∷ []))
    → ◌≡◌ {A = StretchPlace} (record { stretch = record { at = get_or l 0 0; bytes = get_or l 1 0 }; lost = r.lost }) (stretch_of own p begins f k)
unfolding list_of stretch_of
one-listed own f p begins k r l e =
    ap (λ (x : Listed). record { stretch = record { at = get_or x.places 0 0; bytes = get_or x.places 1 0 }; lost = x.placed.lost }) e
    ∙ ap (λ (t : Extent). record { stretch = t; lost = lost_in begins f }) (first-listed (extents_of own p begins f) k)

-- nothing stands behind the end of a frame
pub nothing-behind : (own : PortId) (f : List ℕ) (p : Ports) (begins first : ℕ) (places : List ℕ) → length f < begins
    → ◌≡◌ {A = Listed} (record { placed = record { count = 0; lost = false }; places = places }) (list_of own p begins f first places)
unfolding list_of
nothing-behind own f p begins first places h =
    let e : next_of (drop begins f) ≡ Done = sym (done-ahead (drop begins f) (omega (arith, length-drop begins f))) in
    let l : List Extent = extents_of own p begins f in
    let n : take (room_in places - 0) (drop first l) ≡ [] =
    ap (λ (x : List Extent). take (room_in places - 0) (drop first x)) (extents-done f begins own p e) ∙ ap (take (room_in places - 0)) (drop-nil first) ∙ take-nil (room_in places - 0) in
    run_end places _ first 0 places l false (run-start places first l) n
    ∙ ap (λ (b : Bool). listing (take (room_in places) (drop first l)) b places) (sym (lost_done f begins e))

-- what was decided is done
pub turned : (p : Ports) (d e z : Reassembly) (at n : ℕ) (q : Ports) (b : Option Extent) → e ≡ d → e ≡ z → q ≡ ports_after p z n → b ≡ brought (alone_at z at n)
    → (q ≡ ports_after p d n) × (b ≡ brought (alone_at d at n))
turned p d e z at n q b ed ez eq eb =
    let m : z ≡ d = sym ez ∙ ed in
    (eq ∙ ap (λ (x : Reassembly). ports_after p x n) m, eb ∙ ap (λ (x : Reassembly). brought (alone_at x at n)) m)
