-- The truth of the names bites: in O2-3 a frame with two discovery grants, both planned, refutes a tool that calls everything foreign and
-- one that names the first structure only.
-- Assumes nothing.
use Prim.Native.Nat.{ℕ, ◌<◌, ◌≤◌}
use native.Mathlib.Omega.{arith}
use mathlib.Core.Path.{◌≡◌, ◌∙◌, refl, ap, subst}
use mathlib.Core.Bool.{true}
use mathlib.Core.List.{List, [], ◌∷◌}
use lib.ListN.{length, get_or, take, replicate, length-replicate}
use borrow.Author.Tests.{le-leb}
use Rattle.xgem.specs.Reads.{Found, fields}
use Rattle.xgem.specs.Writes.{put}
use Rattle.xgtc.specs.declared.hlend.Hlend.{Hlend}
use Rattle.xgtc.specs.Reads.{read_hlend_lem}
use Rattle.station.specs.declared.Station.{Station}
use Rattle.answers.specs.declared.Answer.TheVariants.{Done}
use Rattle.answers.specs.Answers.{answer_number}
use Rattle.entries.specs.declared.Verdict.TheVariants.{Planned, Foreign}
use Rattle.entries.specs.Names.{name_number}
use Rattle.validity.specs.Ranges.{in_range}
use Rattle.downstream.specs.Lengths.{length_fits_lem}
use Rattle.downstream.specs.Opening.{by_hlend_lem, opening}
use Rattle.downstream.specs.Partitions.{header_end_lem}
use Rattle.engine.specs.Naming.{NamesLeft, named_in, most_structures, names_by, why_dark_lem}
use Rattle.demands.specs.Promises.{TruthfulNames}
use Rattle.demands.specs.Wrong.{with_names, renamed, calls_all_foreign, names_the_first}
use Rattle.demands.proofs.RefutingRuns.{searching, searching_in_range}
use Rattle.demands.proofs.TwoGrants.{two, two_entries, reads_two, two-named}
use Rattle.demands.proofs.Names.{truthful_names, same_name}

-- ---- what this engine leaves

-- a list that is full of what is no name's number
unfoldable lent_names : List ℕ
lent_names = replicate most_structures 77

long-enough : most_structures ≤ length lent_names
unfolding lent_names
long-enough = omega (arith, length-replicate {A = ℕ} most_structures 77)

opened
    : (s : Station) (f names : List ℕ) (h : Hlend) → in_range s ≡ true → length_fits_lem (length f) ≡ true → most_structures ≤ length names → read_hlend_lem f ≡ fields h
    → header_end_lem h ≤ length f → why_dark_lem s f names ≡ named_in s h f names
unfolding why_dark_lem opening
opened s f names h p q r e fits =
    rw (p, q, le-leb most_structures (length names) r)
    (ap (λ (x : Found Hlend). names_by (by_hlend_lem x (length f)) s f names) e ∙ rw (le-leb (header_end_lem h) (length f) fits))

abbrev both_planned : List ℕ
both_planned = name_number Planned ∷ name_number Planned ∷ []

named-two : why_dark_lem searching two lent_names ≡ record { found = record { answer = Done; count = 2 }; names = put lent_names both_planned }
unfolding named_in two two_entries length_fits_lem
named-two =
    opened searching two lent_names two_entries searching_in_range refl long-enough reads_two (omega arith)
    ∙ ap (λ (l : List ℕ). record { found = record { answer = Done; count = 2 }; names = put lent_names l }) two-named

-- ---- and what a tool with other names may leave

as_named
    : (other : List ℕ → List ℕ) → TruthfulNames (with_names (λ s f names. renamed other (why_dark_lem s f names) names)) → (i : ℕ) → i < 2
    → get_or (put lent_names (other both_planned)) i 0 ≡ get_or (put lent_names both_planned) i 0
unfolding two_entries
as_named other d i lies =
    let w = why_dark_lem searching two lent_names in
    let answer : answer_number w.found.answer ≡ 0 = ap (λ (x : NamesLeft). answer_number x.found.answer) named-two in
    subst (λ (x : NamesLeft). get_or (renamed other x lent_names).names i 0 ≡ get_or x.names i 0) named-two
    (same_name searching two two_entries reads_two i lies (renamed other w lent_names) w (d searching two lent_names answer) (truthful_names searching two lent_names answer))

-- the first is planned, and its fact is not that it is foreign
pub calls-all-foreign : TruthfulNames calls_all_foreign → ⊥
calls-all-foreign d =
    let n : ◌≡◌ {A = ℕ} 4 0 = as_named (λ l. replicate (length l) (name_number Foreign)) d 0 (omega arith) in
    omega (arith, n)

-- the second has no name
pub names-the-first : TruthfulNames names_the_first → ⊥
unfolding lent_names
names-the-first d =
    let n : ◌≡◌ {A = ℕ} 77 0 = as_named (take 1) d 1 (omega arith) in
    omega (arith, n)
