-- A record of the plan: four numbers for one entry that is planned.
-- Assumes nothing.
use Rattle.std.specs.Prelude.{ℕ, ◌+◌, ◌*◌, Bool, cond, List, [], ◌∷◌, leb, length}
use Rattle.std.proofs.lemmas.List.Edits.{sets}
use Rattle.xgtc.specs.declared.allocation.Allocation.{Allocation}
use Rattle.plan.specs.Limits.{numbers_a_record}

-- ---- "flags (head 1, head's PLOAMu 2, DBRu 4, FWI 8, profile times 16)"

abbrev pub mark : Bool → ℕ → ℕ
mark set weight = cond set weight 0

abbrev pub head_mark : ℕ
head_mark = 1

abbrev pub ploamu_mark : ℕ
ploamu_mark = 2

abbrev pub dbru_mark : ℕ
dbru_mark = 4

abbrev pub fwi_mark : ℕ
fwi_mark = 8

abbrev pub profile_weight : ℕ
profile_weight = 16

-- "FWI and profile are the head's throughout"
unfoldable pub burst_flags_lem : Allocation → ℕ
burst_flags_lem h = mark h.fwi fwi_mark + h.profile * profile_weight

unfoldable pub head_flags_lem : Allocation → ℕ
head_flags_lem h = head_mark + mark h.ploamu ploamu_mark + mark h.dbru dbru_mark + burst_flags_lem h

-- "and flags 1 and 2 stand only on the head"
unfoldable pub more_flags_lem : Allocation → Allocation → ℕ
more_flags_lem h a = mark a.dbru dbru_mark + burst_flags_lem h

-- ---- "Plan record: Alloc-ID; flags; burst start; GrantSize"

abbrev pub plan_record : Allocation → ℕ → ℕ → List ℕ
plan_record a flags start = a.alloc.0 ∷ flags ∷ start ∷ a.grant ∷ []

-- a record from a place of the plan on, where there is room for it
unfoldable pub placed : List ℕ → ℕ → Allocation → ℕ → ℕ → List ℕ
placed plan at a flags start = cond (leb (at + numbers_a_record) (length plan)) (sets plan at (plan_record a flags start)) plan
