-- How the laser reads a plan: from its records alone, and not from the map.
-- Assumes nothing.
use Rattle.std.specs.Prelude.{ℕ, ◌*◌, ◌/◌, ◌%◌, Bool, cond, List, [], ◌∷◌, eqb, take}
use Rattle.xgtc.specs.declared.allocation.Allocation.{Allocation}
use Rattle.plan.specs.Limits.{numbers_a_record}
use Rattle.series.specs.Series.{Series}
use Rattle.plan.specs.Records.{head_mark, ploamu_mark, dbru_mark, fwi_mark, profile_weight}

-- what is sent to one Alloc-ID
pub record Grant : Type 0 where
  pub alloc : ℕ
  pub dbru : Bool
  pub words : ℕ

-- one burst
pub record Sending : Type 0 where
  pub start : ℕ
  pub ploamu : Bool
  pub fwi : Bool
  pub profile : ℕ
  pub grants : List Grant

pub record Record : Type 0 where
  pub alloc : ℕ
  pub flags : ℕ
  pub start : ℕ
  pub words : ℕ

-- records of four numbers
abbrev pub records_of_lem : List ℕ → List Record
records_of_lem [] = []
records_of_lem (a ∷ []) = []
records_of_lem (a ∷ b ∷ []) = []
records_of_lem (a ∷ b ∷ c ∷ []) = []
records_of_lem (a ∷ b ∷ c ∷ d ∷ l) = record { alloc = a; flags = b; start = c; words = d } ∷ records_of_lem l

-- a flag of a weight is set
abbrev pub flagged : ℕ → Record → Bool
flagged weight r = eqb (r.flags / weight % 2) 1

unfoldable pub opens : Record → Bool
opens r = flagged head_mark r

unfoldable pub granted : Record → Grant
granted r = record { alloc = r.alloc; dbru = flagged dbru_mark r; words = r.words }

-- the records up to the next head
abbrev pub joining : List Record → List Grant
joining [] = []
joining (r ∷ l) = cond (opens r) [] (granted r ∷ joining l)

unfoldable pub sending : Record → List Record → Sending
sending r l =
    record { start = r.start; ploamu = flagged ploamu_mark r; fwi = flagged fwi_mark r; profile = r.flags / profile_weight; grants = granted r ∷ joining l }

-- each head opens a burst
abbrev pub sendings : List Record → List Sending
sendings [] = []
sendings (r ∷ l) = cond (opens r) (sending r l ∷ sendings l) (sendings l)

-- the bursts that the laser sends by so many records of a plan
abbrev pub laser : ℕ → List ℕ → List Sending
laser records plan = sendings (records_of_lem (take (numbers_a_record * records) plan))

-- ---- what it should send

abbrev pub grant_of : Allocation → Grant
grant_of a = record { alloc = a.alloc.0; dbru = a.dbru; words = a.grant }

abbrev pub grants_of : List Allocation → List Grant
grants_of [] = []
grants_of (a ∷ l) = grant_of a ∷ grants_of l

-- "FWI and profile are the head's throughout"
abbrev pub burst_of : Series → Sending
burst_of s =
    record {
      start = s.head.start;
      ploamu = s.head.ploamu;
      fwi = s.head.fwi;
      profile = s.head.profile;
      grants = grants_of (s.head ∷ s.more);
    }

abbrev pub bursts_of : List Series → List Sending
bursts_of [] = []
bursts_of (s ∷ l) = burst_of s ∷ bursts_of l
