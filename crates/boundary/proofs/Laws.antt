-- A state that is read, and what each call then leaves, a case each.
-- Assumes nothing.
use mathlib.Core.Path.{◌≡◌, refl, sym, ap, ◌∙◌}
use mathlib.Core.Bool.{Bool, true, false}
use mathlib.Core.List.{List, [], ◌∷◌, ◌++◌, append-nil}
use Prim.Native.Nat.{ℕ, ◌≤◌, ◌<◌}
use native.Mathlib.Omega.{arith}
use lib.Dec.{leb}
use lib.ListN.{length, take, drop, drop_of_length-le}
use lib.Seq.{take-length}
use borrow.Author.Tests.{le-leb, lt-leb}
use Rattle.xgem.specs.Reads.{Found, fields, found_in}
use Rattle.xgem.specs.Writes as writes
use Rattle.station.specs.declared.Station.{Station}
use Rattle.answers.specs.declared.Answer.TheVariants.{Done}
use Rattle.answers.specs.Answers.{answer_number}
use Rattle.station.specs.declared.Outcome.{Outcome}
use Rattle.link.specs.Limits.{key_octets}
use Rattle.validity.specs.Ranges.{in_range}
use Rattle.host.specs.Host.{after_key}
use Rattle.downstream.specs.declared.Opening.{Opening}
use Rattle.downstream.specs.Opening.{opening_by}
use Rattle.downstream.proofs.Laws.{opening_is}
use Rattle.frame.specs.declared.Counts.{Counts}
use Rattle.frame.specs.declared.FrameOutcome.{FrameOutcome}
use Rattle.engine.specs.declared.stretching.StretchPlace.{StretchPlace}
use Rattle.frame.specs.Given.{Arrival, Lent}
use Rattle.frame.specs.Frame.{FrameLeft, leaving, no_counts, frame_left}
use Rattle.engine.specs.Stretch.{stretch_place_lem}
use Rattle.std.specs.Prelude.{Result, Ok, Err}
use Rattle.xgem.specs.declared.ReadError.{ReadError}
use Rattle.xgem.specs.declared.ReadError.TheVariants.{Unreadable, Short}
use Rattle.layout.specs.Layout.{read_of, decoded, stored}
use Rattle.layout.proofs.RoundTrips.{read_stored}
use Rattle.boundary.specs.Calls.{StateLeft, by, unread_answer, asked, in_range_on, key_left}
use Rattle.boundary.specs.Frames.{BuffersLeft, PlaceLeft, answer_by_lem, opened_by, counted, after_frame, refused_frame, frame_by, placed, place_by}

module _ (b : List ℕ) (r : Result Station ReadError) (e : r ≡ read_of b) where
  pub is-held : (s : Station) → r ≡ Ok s → decoded b ≡ fields s
  is-held s h = ap found_in (sym e ∙ h)

  pub is_unread : (x : ReadError) → r ≡ Err x → decoded b ≡ found_in (Err x)
  is_unread x h = ap found_in (sym e ∙ h)

-- ---- the calls on a state alone

module _ (b : List ℕ) (call : Station → Outcome) where
  pub call-held
      : (s : Station) (o : Outcome) (n : ℕ) (x : List ℕ) → decoded b ≡ fields s → o ≡ call s → n ≡ answer_number o.answer → x ≡ stored o.station b
      → ◌≡◌ {A = StateLeft} (record { answer = n; state = x }) (by (decoded b) call b)
  call-held s o n x ed eo en ex =
      let made : ◌≡◌ {A = StateLeft} (record { answer = n; state = x }) (record { answer = answer_number o.answer; state = stored o.station b }) = λ j. record { answer = en j; state = ex j } in
      made
      ∙ ap (λ (z : Outcome). record { answer = answer_number z.answer; state = stored z.station b }) eo
      ∙ sym (ap (λ (f : Found Station). by f call b) ed)

  pub call_unread : (x : ReadError) (n : ℕ) → decoded b ≡ found_in (Err x) → n ≡ answer_number (unread_answer x) → ◌≡◌ {A = StateLeft} (record { answer = n; state = b }) (by (decoded b) call b)
  call_unread Unreadable n ed en = ap (λ (k : ℕ). record { answer = k; state = b }) en ∙ sym (ap (λ (f : Found Station). by f call b) ed)
  call_unread Short n ed en = ap (λ (k : ℕ). record { answer = k; state = b }) en ∙ sym (ap (λ (f : Found Station). by f call b) ed)

  -- nothing is written back where the station is as it was
  pub call_kept
      : (s : Station) (n : ℕ) → decoded b ≡ fields s → n ≡ answer_number (call s).answer → (call s).station ≡ s
      → ◌≡◌ {A = StateLeft} (record { answer = n; state = b }) (by (decoded b) call b)
  call_kept s n ed en es =
      let kept : b ≡ stored (call s).station b = sym (read_stored b s ed) ∙ ap (λ (z : Station). stored z b) (sym es) in
      let made : ◌≡◌ {A = StateLeft} (record { answer = n; state = b }) (record { answer = answer_number (call s).answer; state = stored (call s).station b }) = λ j. record { answer = en j; state = kept j } in
      made ∙ sym (ap (λ (f : Found Station). by f call b) ed)

module _ (b : List ℕ) where
  pub range-held : (s : Station) (n : ℕ) → decoded b ≡ fields s → n ≡ answer_number (asked true s).answer → n ≡ in_range_on b
  unfolding in_range_on
  range-held s n ed en = en ∙ sym (ap (λ (f : Found Station). (by f (asked true) b).answer) ed)

  pub range_unread : (x : ReadError) (n : ℕ) → decoded b ≡ found_in (Err x) → n ≡ answer_number (unread_answer x) → n ≡ in_range_on b
  unfolding in_range_on
  range_unread Unreadable n ed en = en ∙ sym (ap (λ (f : Found Station). (by f (asked true) b).answer) ed)
  range_unread Short n ed en = en ∙ sym (ap (λ (f : Found Station). (by f (asked true) b).answer) ed)

module _ (s : Station) (key : List ℕ) where
  pub key_short : length key < key_octets → key_left s key ≡ asked false s
  unfolding key_left
  key_short h = rw (lt-leb key_octets (length key) h)

  pub key_whole : (octets : List ℕ) (o : Outcome) → key_octets ≤ length key → octets ≡ take key_octets key → o ≡ after_key s octets → o ≡ key_left s key
  unfolding key_left
  key_whole octets o h e f = rw (le-leb key_octets (length key) h) (f ∙ ap (after_key s) e)

pub powered : (b x : List ℕ) (s t : Station) → x ≡ stored s b → s ≡ t → ◌≡◌ {A = StateLeft} (record { answer = 0; state = x }) (record { answer = answer_number Done; state = stored t b })
powered b x s t e f = ap (λ (l : List ℕ). record { answer = 0; state = l }) (e ∙ ap (λ (z : Station). stored z b) f)

pub copied : (src dst x : List ℕ) → length dst ≡ length src → x ≡ take (length src) src ++ drop (length src) dst → x ≡ src
copied src dst x e f =
    f ∙ ap (λ (l : List ℕ). l ++ drop (length src) dst) (take-length src)
    ∙ ap (λ (l : List ℕ). src ++ l) (drop_of_length-le dst {i = length src} (omega arith)) ∙ append-nil src

-- ---- the room for what comes back

module _ (b f : List ℕ) (room : Bool) where
  pub opened-held
      : (s : Station) (valid : Bool) (o : Opening) (n : ℕ) → decoded b ≡ fields s → valid ≡ in_range s → o ≡ opening_by valid f room
      → n ≡ answer_number (answer_by_lem o) → n ≡ opened_by (decoded b) f room
  opened-held s valid o n ed ev eo en =
      en ∙ ap (λ (z : Opening). answer_number (answer_by_lem z)) (eo ∙ opening_is s f valid room ev) ∙ sym (ap (λ (z : Found Station). opened_by z f room) ed)

  pub opened_unread : (x : ReadError) (n : ℕ) → decoded b ≡ found_in (Err x) → n ≡ answer_number (unread_answer x) → n ≡ opened_by (decoded b) f room
  opened_unread Unreadable n ed en = en ∙ sym (ap (λ (z : Found Station). opened_by z f room) ed)
  opened_unread Short n ed en = en ∙ sym (ap (λ (z : Found Station). opened_by z f room) ed)

-- without it
module _ (b f have : List ℕ) (need n : ℕ) (h : length have < need) (e : n ≡ opened_by (decoded b) f (leb need (length have))) where
  pub no_room : n ≡ opened_by (decoded b) f false
  no_room = e ∙ ap (opened_by (decoded b) f) (lt-leb need (length have) h)

-- ---- the frame call and the stretch

module _ (b : List ℕ) (a : Arrival) (counts : List ℕ) (lent : Lent) where
  pub frame-held
      : (s : Station) (r : FrameOutcome) (left : Lent) (n : ℕ) (x k : List ℕ) → decoded b ≡ fields s → leaving r left ≡ frame_left s a lent
      → n ≡ answer_number r.answer → x ≡ stored r.station b → k ≡ counted counts r.counts
      → ◌≡◌ {A = BuffersLeft} (record { answer = n; state = x; counts = k; lent = left }) (frame_by (decoded b) b a counts lent)
  frame-held s r left n x k ed ef en ex ek =
      let made : ◌≡◌ {A = BuffersLeft} (record { answer = n; state = x; counts = k; lent = left }) (after_frame (leaving r left) b counts) = λ j. record { answer = en j; state = ex j; counts = ek j; lent = left } in
      made ∙ ap (λ (l : FrameLeft). after_frame l b counts) ef ∙ sym (ap (λ (z : Found Station). frame_by z b a counts lent) ed)

  pub frame-unread
      : (x : ReadError) (n : ℕ) (k : List ℕ) (c : Counts) → decoded b ≡ found_in (Err x) → n ≡ answer_number (unread_answer x) → c ≡ no_counts → k ≡ counted counts c
      → ◌≡◌ {A = BuffersLeft} (record { answer = n; state = b; counts = k; lent = lent }) (frame_by (decoded b) b a counts lent)
  frame-unread x n k c ed en ec ek =
      let none : k ≡ counted counts no_counts = ek ∙ ap (counted counts) ec in
      let made : ◌≡◌ {A = BuffersLeft} (record { answer = n; state = b; counts = k; lent = lent }) (refused_frame (answer_number (unread_answer x)) b counts lent) = λ j. record { answer = en j; state = b; counts = none j; lent = lent } in
      made ∙ by_reason x ∙ sym (ap (λ (z : Found Station). frame_by z b a counts lent) ed)
    where
      by_reason : (y : ReadError) → refused_frame (answer_number (unread_answer y)) b counts lent ≡ frame_by (found_in (Err y)) b a counts lent
      by_reason Unreadable = refl
      by_reason Short = refl

module _ (b f : List ℕ) (k : ℕ) (place : List ℕ) where
  pub place-held
      : (s : Station) (p : StretchPlace) (n : ℕ) (x : List ℕ) → decoded b ≡ fields s → p ≡ stretch_place_lem s f k → n ≡ answer_number p.answer
      → x ≡ writes.put place (p.at ∷ (p.bytes ∷ [])) → ◌≡◌ {A = PlaceLeft} (record { answer = n; place = x }) (place_by (decoded b) f k place)
  place-held s p n x ed ep en ex =
      let made : ◌≡◌ {A = PlaceLeft} (record { answer = n; place = x }) (placed (answer_number p.answer) place p.at p.bytes) = λ j. record { answer = en j; place = ex j } in
      made
      ∙ ap (λ (z : StretchPlace). placed (answer_number z.answer) place z.at z.bytes) ep
      ∙ sym (ap (λ (z : Found Station). place_by z f k place) ed)

  pub place-unread
      : (y : ReadError) (n : ℕ) (x : List ℕ) → decoded b ≡ found_in (Err y) → n ≡ answer_number (unread_answer y) → x ≡ writes.put place (0 ∷ (0 ∷ []))
      → ◌≡◌ {A = PlaceLeft} (record { answer = n; place = x }) (place_by (decoded b) f k place)
  place-unread y n x ed en ex =
      let made : ◌≡◌ {A = PlaceLeft} (record { answer = n; place = x }) (placed (answer_number (unread_answer y)) place 0 0) = λ j. record { answer = en j; place = ex j } in
      made ∙ by_reason y ∙ sym (ap (λ (z : Found Station). place_by z f k place) ed)
    where
      by_reason : (y : ReadError) → placed (answer_number (unread_answer y)) place 0 0 ≡ place_by (found_in (Err y)) f k place
      by_reason Unreadable = refl
      by_reason Short = refl
