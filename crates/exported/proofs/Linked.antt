-- A run of exported calls is a run of the engine.
-- Assumes nothing.
use Prim.Native.Nat.{ℕ, ◌≤◌}
use native.Mathlib.Omega.{arith}
use mathlib.Core.Path.{◌≡◌, ◌∙◌, refl, sym, ap, ap₂, subst}
use mathlib.Core.Bool.{Bool, true, false, cond, ◌&&◌}
use mathlib.Core.List.{List, [], ◌∷◌, ◌++◌}
use lib.Dec.{leb}
use lib.ListN.{length, take, drop, length-append, length-drop}
use lib.Seq.{drop_at, length-take-le}
use borrow.Author.Tests.{le-leb, leb-true}
use Rattle.aes.specs.Words.{Octets}
use Rattle.xgem.specs.Reads.{Found, fields}
use Rattle.xgem.specs.Writes.{put}
use Rattle.link.specs.Limits.{key_octets}
use Rattle.station.specs.Limits.{serial_octets_lem, registration_octets_lem}
use Rattle.station.specs.declared.Station.{Station}
use Rattle.station.specs.declared.Outcome.{Outcome}
use Rattle.station.specs.Station.{power_on_lem}
use Rattle.answers.specs.Answers.{answer_number}
use Rattle.host.specs.Host.{after_add, after_remove, after_key}
use Rattle.frame.specs.Given.{Arrival, Lent}
use Rattle.frame.specs.Frame.{frame_left}
use Rattle.engine.specs.Lods.{lost_left}
use Rattle.engine.specs.Naming as naming
use Rattle.invariants.proofs.InRange.{Sound, power_on_sound}
use Rattle.layout.specs.Layout.{state_bytes, encoded, decoded, stored}
use Rattle.layout.specs.Typed.{Typed}
use Rattle.layout.proofs.RoundTrips.{written_read, read_stored, encoded-length}
use Rattle.boundary.specs.Calls.{StateLeft, by, asked, key_left, lost_on, add_on, remove_on, key_on, power_on_in}
use Rattle.boundary.specs.Frames.{BuffersLeft, count_numbers, after_frame, frame_by, opened_by, frame_on}
use Rattle.boundary.specs.Lists.{list_counts, list_by, list_on, named}
use Rattle.demands.specs.Engine.{lingbarrow}
use Rattle.demands.specs.Runs.{Call, Buffers, Progress, lend, run_of}
use Rattle.demands.specs.Runs as engine
use Rattle.demands.proofs.Runs.{Kept, call_kept, started}
use Rattle.exported.specs.Runs.{Exported, frame, lost, add_port_lem, remove_port_lem, give_key_lem, why_dark_lem, OfOctets, AllOfOctets, Held, lend_to, after, run, run_in, calls_of, engine_calls, engine_run, leaving, Linked, AlwaysLinked}
use Rattle.exported.proofs.Widths.{Widths, power_on_widths, frame-widths, lost_call_widths, add-widths, remove_widths, key_widths}
use Rattle.exported.proofs.Types.{typed}

-- ---- octets

stored_is : (s : Station) (b : List ℕ) → state_bytes ≤ length b → stored s b ≡ put b (encoded s)
unfolding stored
stored_is s b h = rw (le-leb state_bytes (length b) h)

-- what is stored is read again
stored_read : (s : Station) (b : List ℕ) → state_bytes ≤ length b → Typed s → decoded (stored s b) ≡ fields s
stored_read s b h t = ap decoded (stored_is s b h) ∙ written_read s t (drop (length (encoded s)) b)

-- the buffer of one state is that of another
stored_over : (s t : Station) (b : List ℕ) → state_bytes ≤ length b → Typed s → Typed t → stored t (stored s b) ≡ stored t b
stored_over s t b h p q =
    let n = encoded-length s p.sized in
    let m = encoded-length t q.sized in
    let long : length (put b (encoded s)) ≡ length b = omega (arith, n, h, length-append (encoded s) (drop (length (encoded s)) b), length-drop (length (encoded s)) b) in
    let behind : drop (length (encoded t)) (put b (encoded s)) ≡ drop (length (encoded t)) b
    = drop_at (encoded s) (drop (length (encoded s)) b) (length (encoded t)) (n ∙ sym m) ∙ ap (λ (k : ℕ). drop k b) (n ∙ sym m) in
    ap (stored t) (stored_is s b h)
    ∙ stored_is t (put b (encoded s)) (omega (arith, long, h))
    ∙ ap (λ (l : List ℕ). encoded t ++ l) behind
    ∙ sym (stored_is t b h)

-- ---- how far both runs have come

record Along (b : List ℕ) (first : Station) (held : Held) (st : Progress) : Type 0 where
  pub kept : Kept first st
  pub widths : Widths st.station
  pub octets : held.state ≡ stored st.station b
  pub memory : held.memory ≡ st.memory

module _ (b : List ℕ) (room : state_bytes ≤ length b) (first : Station) where
  types : (held : Held) (st : Progress) → Along b first held st → Typed st.station
  types held st k = typed st.station k.kept.sound k.widths

  reads : (held : Held) (st : Progress) → Along b first held st → decoded held.state ≡ fields st.station
  reads held st k = ap decoded k.octets ∙ stored_read st.station b room (types held st k)

  -- what is then stored
  over : (held : Held) (st on : Progress) → Along b first held st → Kept first on → Widths on.station → stored on.station held.state ≡ stored on.station b
  over held st on k n w =
      ap (stored on.station) k.octets ∙ stored_over st.station on.station b room (types held st k) (typed on.station n.sound w)

  -- ---- a call

  -- one that takes and leaves a state
  by_call : (held : Held) (st : Progress) → Along b first held st → (c : Call) (call : Station → Outcome) → (engine.after lingbarrow first st c).station ≡ (call st.station).station
      → (engine.after lingbarrow first st c).memory ≡ st.memory → Widths (engine.after lingbarrow first st c).station
      → Along b first (record { state = (by (decoded held.state) call held.state).state; memory = held.memory }) (engine.after lingbarrow first st c)
  by_call held st k c call is same w =
      let on = engine.after lingbarrow first st c in
      let n = call_kept first st c k.kept in
      record {
        kept = n;
        widths = w;
        octets = ap (λ (z : Found Station). (by z call held.state).state) (reads held st k) ∙ ap (λ (x : Station). stored x held.state) (sym is) ∙ over held st on k n w;
        memory = k.memory ∙ sym same;
      }

  lent_same : (held : Held) (st : Progress) → Along b first held st → (buffers : Buffers) → lend_to held buffers ≡ lend st buffers
  lent_same held st k buffers = ap (λ (m : List ℕ). lend_to (record { state = held.state; memory = m }) buffers) k.memory

  frame_read : (held : Held) (st : Progress) → Along b first held st → (a : Arrival) (counts : List ℕ) (buffers : Buffers)
      → frame_by (decoded held.state) held.state a counts (lend_to held buffers) ≡ after_frame (frame_left st.station a (lend st buffers)) held.state counts
  frame_read held st k a counts buffers =
      ap₂ (λ (z : Found Station) (l : Lent). frame_by z held.state a counts l) (reads held st k) (lent_same held st k buffers)

  frame-along : (held : Held) (st : Progress) → Along b first held st → (a : Arrival) (counts : List ℕ) (buffers : Buffers) → Octets a.octets → (r : Bool)
      → let left = cond {A = BuffersLeft} r (frame_by (decoded held.state) held.state a counts (lend_to held buffers)) (record { answer = opened_by (decoded held.state) a.octets false; state = held.state; counts = counts; lent = lend_to held buffers }) in
      Along b first (record { state = left.state; memory = left.lent.memory }) (engine.run lingbarrow first st (cond r (engine.frame a buffers ∷ []) []))
  frame-along held st k a counts buffers o false = record { kept = k.kept; widths = k.widths; octets = k.octets; memory = k.memory }
  frame-along held st k a counts buffers o true =
      let on = engine.after lingbarrow first st (engine.frame a buffers) in
      let n = call_kept first st (engine.frame a buffers) k.kept in
      let w = frame-widths st.station a (lend st buffers) o k.widths in
      let e = frame_read held st k a counts buffers in
      record {
        kept = n;
        widths = w;
        octets = ap (λ (x : BuffersLeft). x.state) e ∙ over held st on k n w;
        memory = ap (λ (x : BuffersLeft). x.lent.memory) e;
      }

  key_along : (held : Held) (st : Progress) → Along b first held st → (key : List ℕ) (r : Bool) → leb key_octets (length key) ≡ r
      → Along b first (record { state = (by (decoded held.state) (λ (s : Station). cond r (after_key s (take key_octets key)) (asked false s)) held.state).state; memory = held.memory })
      (engine.run lingbarrow first st (cond r (engine.give_key_lem (take key_octets key) ∷ []) []))
  key_along held st k key true e =
      by_call held st k (engine.give_key_lem (take key_octets key)) (λ (s : Station). after_key s (take key_octets key)) refl refl
      (key_widths st.station (take key_octets key) (length-take-le key_octets key (leb-true key_octets (length key) e)) k.widths)
  key_along held st k key false e =
      record {
        kept = k.kept;
        widths = k.widths;
        octets = ap (λ (z : Found Station). (by z (asked false) held.state).state) (reads held st k) ∙ read_stored held.state st.station (reads held st k) ∙ k.octets;
        memory = k.memory;
      }

  -- "the tool moves no state"
  names-along : (held : Held) (st : Progress) → Along b first held st → (f names : List ℕ) (r : Bool) → Along b first held (engine.run lingbarrow first st (cond r (engine.why_dark_lem f names ∷ []) []))
  names-along held st k f names true = k
  names-along held st k f names false = k

  step : (held : Held) (st : Progress) (c : Exported) → Along b first held st → OfOctets c → Along b first (after held c) (engine.run lingbarrow first st (calls_of c))
  unfolding frame_on lost_on add_on remove_on key_on key_left
  step held st (frame a counts buffers) k o = frame-along held st k a counts buffers o (leb count_numbers (length counts))
  step held st lost k o = by_call held st k engine.lost lost_left refl refl (lost_call_widths st.station k.widths)
  step held st (add_port_lem number) k o =
      by_call held st k (engine.add_port_lem (record { 0 = number })) (λ (s : Station). after_add s (record { 0 = number })) refl refl (add-widths st.station (record { 0 = number }) k.widths)
  step held st (remove_port_lem number) k o =
      by_call held st k (engine.remove_port_lem (record { 0 = number })) (λ (s : Station). after_remove s (record { 0 = number })) refl refl (remove_widths st.station (record { 0 = number }) k.widths)
  step held st (give_key_lem key) k o = key_along held st k key (leb key_octets (length key)) refl
  step held st (why_dark_lem f names counts) k o = names-along held st k f names (leb list_counts (length counts))

  run_join : (st : Progress) (l m : List Call) → engine.run lingbarrow first st (l ++ m) ≡ engine.run lingbarrow first (engine.run lingbarrow first st l) m
  run_join st [] m = refl
  run_join st (c ∷ l) m = run_join (engine.after lingbarrow first st c) l m

  along : (held : Held) (st : Progress) (calls : List Exported) → Along b first held st → AllOfOctets calls → Along b first (run held calls) (engine.run lingbarrow first st (engine_calls calls))
  along held st [] k o = k
  along held st (c ∷ l) k (p, o) =
      subst (Along b first (run (after held c) l)) (sym (run_join st (calls_of c) (engine_calls l)))
      (along (after held c) (engine.run lingbarrow first st (calls_of c)) l (step held st c k p) o)

-- ---- from power-on

begun : (b serial registration memory : List ℕ) → state_bytes ≤ length b → serial_octets_lem ≤ length serial → registration_octets_lem ≤ length registration
    → let first = power_on_lem (take serial_octets_lem serial) (take registration_octets_lem registration) in
    Along b first (record { state = (power_on_in b serial registration).state; memory = memory }) (engine.start first memory)
unfolding power_on_in
begun b serial registration memory room s r =
    record {
      kept = started (take serial_octets_lem serial) (take registration_octets_lem registration) memory;
      widths = power_on_widths (take serial_octets_lem serial) (take registration_octets_lem registration) (length-take-le serial_octets_lem serial s) (length-take-le registration_octets_lem registration r);
      octets = rw (le-leb state_bytes (length b) room, le-leb serial_octets_lem (length serial) s, le-leb registration_octets_lem (length registration) r);
      memory = refl;
    }

pub linked : AlwaysLinked
unfolding frame_on lost_on add_on remove_on key_on key_left list_on
linked b serial registration memory calls room s r o =
    let first = power_on_lem (take serial_octets_lem serial) (take registration_octets_lem registration) in
    let held = run_in b serial registration memory calls in
    let st = engine_run serial registration memory calls in
    let k : Along b first held st = along b room first (record { state = (power_on_in b serial registration).state; memory = memory }) (engine.start first memory) calls (begun b serial registration memory room s r) o in
    let e = reads b room first held st k in
    record {
      octets = k.octets;
      memory_is = k.memory;
      frames = λ a counts buffers h. rw (le-leb count_numbers (length counts) h) (frame_read b room first held st k a counts buffers);
      lost = ap (λ (z : Found Station). by z lost_left held.state) e;
      adds = λ number. ap (λ (z : Found Station). by z (λ (x : Station). after_add x (record { 0 = number })) held.state) e;
      removes = λ number. ap (λ (z : Found Station). by z (λ (x : Station). after_remove x (record { 0 = number })) held.state) e;
      keys = λ key h. rw (le-leb key_octets (length key) h) (ap (λ (z : Found Station). by z (λ (x : Station). after_key x (take key_octets key)) held.state) e);
      names = λ f names counts h. rw (le-leb list_counts (length counts) h) (ap (λ (z : Found Station). list_by z (λ (x : Station). named (naming.why_dark_lem x f names)) names counts) e);
    }
