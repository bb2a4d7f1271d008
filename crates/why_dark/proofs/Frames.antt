-- What is told of a frame, by the answer of the call that names its structures.
-- Assumes nothing.
use mathlib.Core.Path.{◌≡◌, refl, sym, ap, ◌∙◌}
use mathlib.Core.Bool.{Bool, true, false, not, cond, true≢false}
use mathlib.Core.Logic.{◌⊎◌, inl, inr}
use mathlib.Core.List.{List}
use Prim.Native.Nat.{ℕ, ◌-◌, ◌≤◌, ◌<◌}
use native.Mathlib.Omega.{arith}
use lib.Dec.{leb}
use lib.ListN.{length, take, drop, replicate, length-drop}
use lib.Seq.{take_all}
use borrow.Author.Tests.{eq-eqb, ne_eqb, leb-true, lt-ltb, le-ltb}
use Rattle.answers.specs.declared.Answer.TheVariants.{Done, StateOutOfRange, FrameLengthUnfit, BufferTooShort, HeaderTooLong}
use Rattle.answers.specs.Answers.{answer_number}
use Rattle.xgem.specs.Reads.{Found, fields, unreadable, short}
use Rattle.xgtc.specs.declared.hlend.Hlend.{Hlend}
use Rattle.xgtc.specs.Reads.{read_hlend_lem}
use Rattle.station.specs.declared.Station.{Station}
use Rattle.validity.specs.Ranges.{in_range}
use Rattle.downstream.specs.declared.Opening.{Opening}
use Rattle.downstream.specs.declared.Opening.TheVariants.{Refused, Unread, Opened}
use Rattle.downstream.specs.Lengths.{length_fits_lem}
use Rattle.downstream.specs.Partitions.{header_end_lem}
use Rattle.downstream.specs.Opening.{opening, by_hlend_lem}
use Rattle.std.specs.Prelude.{Result, Ok, Err}
use Rattle.xgem.specs.declared.ReadError.{ReadError}
use Rattle.layout.specs.Layout.{read_of}
use Rattle.engine.specs.declared.naming.Named.{Named}
use Rattle.engine.specs.Naming.{NamesLeft, names_fit, names_by, named_in, why_dark_lem}
use Rattle.why_dark.specs.Words.{meaning, too_long_lem}
use Rattle.why_dark.specs.Report.{refusal, lines, report_of, frame_report, unread_report, state_report, report}
use Rattle.why_dark.proofs.Counted.{count_within}

module _ (s : Station) (f : List ℕ) (r : Named) (left : List ℕ)
    (names : ◌≡◌ {A = NamesLeft} (record { found = r; names = left }) (why_dark_lem s f (replicate 2047 0))) where
  pub frame_refused : (answer_number r.answer ≡ 0 → ⊥) → refusal r.answer ≡ frame_report s f
  unfolding frame_report
  frame_refused h =
      ap (λ b. cond b (lines f (take r.count left)) (refusal r.answer)) (sym (ne_eqb (answer_number r.answer) 0 h))
      ∙ ap (λ z. report_of z f) names

  pub frame-named : answer_number r.answer ≡ 0 → lines f (take r.count left) ≡ frame_report s f
  unfolding frame_report
  frame-named h =
      ap (λ b. cond b (lines f (take r.count left)) (refusal r.answer)) (sym (eq-eqb (answer_number r.answer) 0 h))
      ∙ ap (λ z. report_of z f) names

  pub named-few : r.count ≤ 2047
  named-few = omega (arith, ap (λ z. z.found.count) names, count_within s f (replicate 2047 0))

-- ---- the state's octets

is_ok : Result Station ReadError → Bool
is_ok (Ok s) = true
is_ok (Err e) = false

-- a state is read only where there are octets enough
pub held-long : (b : List ℕ) (r : Result Station ReadError) (s : Station) → r ≡ read_of b → r ≡ Ok s → 208 ≤ length b
unfolding read_of is_ok
held-long b r s e h = go (leb 208 (length b)) refl
  where
    go : (t : Bool) → leb 208 (length b) ≡ t → 208 ≤ length b
    go true l = leb-true 208 (length b) l
    go false l = absurd (true≢false (ap is_ok (sym h ∙ rw l at e)))

-- ---- an input

pub long-told : (input : List ℕ) → 135640 < length input → too_long_lem ≡ report input
unfolding report
long-told input h =
    ap (λ b. cond b too_long_lem (state_report (read_of input) (drop 208 input))) (sym (lt-ltb 135640 (length input) h))

module _ (input : List ℕ) (r : Result Station ReadError) (read : r ≡ read_of input) (fits : length input ≤ 135640) where
  told-by : (x : Result Station ReadError) → r ≡ x → state_report x (drop 208 input) ≡ report input
  unfolding report
  told-by x e =
      ap (λ z. state_report z (drop 208 input)) (sym e ∙ read)
      ∙ ap (λ b. cond b too_long_lem (state_report (read_of input) (drop 208 input))) (sym (le-ltb 135640 (length input) fits))

  pub held-told : (s : Station) → r ≡ Ok s → frame_report s (take (length input - 208) (drop 208 input)) ≡ report input
  held-told s e =
      ap (frame_report s) (take_all (length input - 208) (drop 208 input) (simp length-drop (omega arith))) ∙ told-by (Ok s) e

  pub unread_told : (x : ReadError) → r ≡ Err x → unread_report x ≡ report input
  unread_told x e = told-by (Err x) e

-- ---- what refuses a frame has a meaning: it is one of 1 to 5

abbrev meant : Opening → ℕ
meant (Refused answer) = length (meaning answer)
meant (Unread answer) = length (meaning answer)
meant (Opened h) = 1

opening-meant : (s : Station) (f : List ℕ) (room : Bool) → 0 < meant (opening s f room)
unfolding opening
opening-meant s f room = go (in_range s) (length_fits_lem (length f)) room (read_hlend_lem f)
  where
    header : (h : Hlend) (t : Bool) → 0 < meant (cond t (Opened h) (Unread HeaderTooLong))
    header h true = omega arith
    header h false = omega arith

    go
        : (a b c : Bool) (r : Found Hlend)
        → 0 < meant (cond (not a) (Refused StateOutOfRange) (cond (not b) (Refused FrameLengthUnfit) (cond (not c) (Refused BufferTooShort) (by_hlend_lem r (length f)))))
    go false b c r = omega arith
    go true false c r = omega arith
    go true true false r = omega arith
    go true true true (fields h) = header h (leb (header_end_lem h) (length f))
    go true true true unreadable = omega arith
    go true true true short = omega arith

pub refusal-meant : (s : Station) (f names : List ℕ)
    → ((why_dark_lem s f names).found.answer ≡ Done) ⊎ (0 < length (meaning (why_dark_lem s f names).found.answer))
unfolding why_dark_lem named_in
refusal-meant s f names = go (opening s f (names_fit names)) (opening-meant s f (names_fit names))
  where
    go : (o : Opening) → 0 < meant o → ((names_by o s f names).found.answer ≡ Done) ⊎ (0 < length (meaning (names_by o s f names).found.answer))
    go (Refused answer) h = inr h
    go (Unread answer) h = inr h
    go (Opened h) t = inl refl
