-- The names of a frame's structures: HLend counts no more than a list has room for, and each of them has its name.
-- Assumes nothing.
use Prim.Native.Nat.{ℕ, ◌*◌, ◌≤◌}
use native.Mathlib.Omega.{arith}
use mathlib.Core.Path.{◌≡◌, ◌∙◌, sym, ap, subst}
use mathlib.Core.Bool.{Bool, true, false, cond, true≢false}
use mathlib.Core.List.{List}
use lib.Dec.{leb}
use lib.ListN.{length, take, drop, length-drop}
use lib.Seq.{length-take-le}
use borrow.Author.Tests.{le-leb}
use Rattle.std.specs.Prelude.{None, Option, Some, ℕ}
use Rattle.hec.specs.Reads.{Reading, word, reading}
use Rattle.hec.specs.Reads as hec
use Rattle.octets.specs.Octets.{value}
use Rattle.xgem.specs.Reads.{Found, fields, unreadable, short, taken}
use Rattle.xgem.specs.Writes.{put}
use Rattle.xgtc.specs.declared.hlend.Hlend.{Hlend}
use Rattle.xgtc.specs.Layouts.{hlend_of}
use Rattle.xgtc.specs.Reads.{read_hlend_lem}
use Rattle.station.specs.declared.Station.{Station}
use Rattle.answers.specs.declared.Answer.TheVariants.{Done}
use Rattle.entries.specs.Limits.{structure_octets}
use Rattle.series.specs.Series.{entry_count}
use Rattle.bwmap.specs.Names as map
use Rattle.bwmap.specs.Names.{names_of, names_in}
use Rattle.downstream.specs.Partitions.{hlend_octets, header_end_lem, map_of}
use Rattle.frame.specs.Frame.{own_of}
use Rattle.engine.specs.Naming.{NamesLeft, named_in, most_structures}

-- ---- HLend counts in eleven bits

counted : Found Hlend → ℕ
counted (fields h) = h.bwmap
counted unreadable = 0
counted short = 0

pub hlend_count : (f : List ℕ) (h : Hlend) → read_hlend_lem f ≡ fields h → h.bwmap ≤ most_structures
unfolding counted
hlend_count f h e = subst (λ (n : ℕ). n ≤ most_structures) (ap counted e) (go (leb 4 (length f)) (reading 32 (value (take 4 f))))
  where
    go : (b : Bool) (r : Reading) → counted (cond b (taken hlend_of r) short) ≤ most_structures
    go true (word v) = omega arith
    go true hec.unreadable = omega arith
    go false r = omega arith

pub map_count : (h : Hlend) (f : List ℕ) → header_end_lem h ≤ length f → entry_count (map_of h f) ≡ h.bwmap
map_count h f e =
    let room : structure_octets * h.bwmap ≤ length (drop hlend_octets f) = omega (arith, e, length-drop hlend_octets f) in
    let is : length (map_of h f) ≡ structure_octets * h.bwmap = length-take-le (structure_octets * h.bwmap) (drop hlend_octets f) room in
    omega (arith, is)

-- ---- what the walk answers

is_named : Option ℕ → Bool
is_named (Some n) = true
is_named None = false

how_many : Option ℕ → ℕ
how_many (Some n) = n
how_many None = 0

module _ (s : Station) (h : Hlend) (f names left m : List ℕ) (r : Option ℕ) (part : m ≡ map_of h f) (fits : header_end_lem h ≤ length f) (few : h.bwmap ≤ most_structures) (room : most_structures ≤ length names) (walked : ◌≡◌ {A = map.NamesLeft} (record { answer = r; names = left }) (names_in (own_of s) m s.carried names)) where
  all : ◌≡◌ {A = map.NamesLeft} (record { answer = r; names = left }) (record { answer = Some h.bwmap; names = put names (names_of (own_of s) (map_of h f) s.carried) })
  all =
      let count : entry_count m ≡ h.bwmap = ap entry_count part ∙ map_count h f fits in
      let enough : leb (entry_count m) (length names) ≡ true = le-leb (entry_count m) (length names) (omega (arith, count, few, room)) in
      walked ∙ rw enough (λ j. record { answer = Some (count j); names = put names (names_of (own_of s) (part j) s.carried) })

  pub all_named : (n : ℕ) → r ≡ Some n → ◌≡◌ {A = NamesLeft} (record { found = record { answer = Done; count = n }; names = left }) (named_in s h f names)
  unfolding named_in how_many
  all_named n e =
      let count : n ≡ h.bwmap = sym (ap how_many e) ∙ ap (λ (l : map.NamesLeft). how_many l.answer) all in
      λ j. record { found = record { answer = Done; count = count j }; names = ap (λ (l : map.NamesLeft). l.names) all j }

  pub never_short : {A : Type 0} → r ≡ None → A
  unfolding is_named
  never_short e = absurd (true≢false (sym (ap (λ (l : map.NamesLeft). is_named l.answer) all) ∙ ap is_named e))
