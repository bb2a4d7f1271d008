-- The calls that fill a lent list, a case each.
-- Assumes nothing.
use mathlib.Core.Path.{◌≡◌, refl, sym, ap, ◌∙◌}
use mathlib.Core.List.{List, [], ◌∷◌}
use Prim.Native.Nat.{ℕ, ◌≤◌, ◌<◌}
use borrow.Author.Tests.{le-leb, lt-leb}
use lib.Dec.{leb}
use lib.ListN.{length}
use Rattle.std.specs.Prelude.{Err}
use Rattle.xgem.specs.declared.ReadError.{ReadError}
use Rattle.xgem.specs.declared.ReadError.TheVariants.{Unreadable, Short}
use Rattle.xgem.specs.Reads.{Found, fields, found_in}
use Rattle.boundary.specs.Calls.{unread_answer}
use Rattle.xgem.specs.Writes.{put}
use Rattle.station.specs.declared.Station.{Station}
use Rattle.answers.specs.Answers.{answer_number}
use Rattle.layout.specs.Layout.{decoded}
use Rattle.boundary.specs.Frames.{opened_by}
use Rattle.boundary.specs.Lists.{list_counts, Listing, ListLeft, listed, list_by, list_on}
use Rattle.boundary.proofs.Laws.{no_room}

module _ (b f : List ℕ) (call : Station → Listing) (list counts : List ℕ) where
  pub not_counted : (n : ℕ) → length counts < list_counts → n ≡ opened_by (decoded b) f (leb list_counts (length counts))
      → ◌≡◌ {A = ListLeft} (record { answer = n; list = list; counts = counts }) (list_on b f call list counts)
  unfolding list_on
  not_counted n h e =
      rw (lt-leb list_counts (length counts) h)
      (ap (λ (x : ℕ). record { answer = x; list = list; counts = counts }) (no_room b f counts list_counts n h e))

  module _ (h : list_counts ≤ length counts) where
    counted-by : (left : ListLeft) → left ≡ list_by (decoded b) call list counts → left ≡ list_on b f call list counts
    unfolding list_on
    counted-by left e = rw (le-leb list_counts (length counts) h) e

    pub List-held
        : (s : Station) (l : Listing) (n : ℕ) (k : List ℕ) → decoded b ≡ fields s → l ≡ call s → n ≡ answer_number l.answer → k ≡ put counts (l.count ∷ [])
        → ◌≡◌ {A = ListLeft} (record { answer = n; list = l.list; counts = k }) (list_on b f call list counts)
    List-held s l n k ed el en ek =
        let made : ◌≡◌ {A = ListLeft} (record { answer = n; list = l.list; counts = k }) (listed l counts) = λ j. record { answer = en j; list = l.list; counts = ek j } in
        counted-by _ (made ∙ ap (λ (z : Listing). listed z counts) el ∙ sym (ap (λ (x : Found Station). list_by x call list counts) ed))

    pub list-unread
        : (x : ReadError) (n : ℕ) (k : List ℕ) → decoded b ≡ found_in (Err x) → n ≡ answer_number (unread_answer x) → k ≡ put counts (0 ∷ [])
        → ◌≡◌ {A = ListLeft} (record { answer = n; list = list; counts = k }) (list_on b f call list counts)
    list-unread x n k ed en ek =
        let made : ◌≡◌ {A = ListLeft} (record { answer = n; list = list; counts = k }) (record { answer = answer_number (unread_answer x); list = list; counts = put counts (0 ∷ []) }) = λ j. record { answer = en j; list = list; counts = ek j } in
        counted-by _ (made ∙ by_reason x ∙ sym (ap (λ (x : Found Station). list_by x call list counts) ed))
      where
        by_reason : (y : ReadError) → ◌≡◌ {A = ListLeft} (record { answer = answer_number (unread_answer y); list = list; counts = put counts (0 ∷ []) }) (list_by (found_in (Err y)) call list counts)
        by_reason Unreadable = refl
        by_reason Short = refl
