-- "a tool that takes the state and one frame and names, for every structure of the map, what became of it". The state is the one in which
-- the frame arrives, and none comes out.
-- Assumes nothing.
use Rattle.std.specs.Prelude.{ℕ, ◌≡◌, Bool, List, leb, length}
use Rattle.xgtc.specs.declared.hlend.Hlend.{Hlend}
use Rattle.xgem.specs.Writes.{put}
use Rattle.station.specs.declared.Station.{Station}
use Rattle.answers.specs.declared.Answer.{Answer}
use Rattle.answers.specs.declared.Answer.TheVariants.{Done}
use Rattle.bwmap.specs.Names.{names_of}
use Rattle.downstream.specs.declared.Opening.{Opening}
use Rattle.downstream.specs.declared.Opening.TheVariants.{Refused, Unread, Opened}
use Rattle.downstream.specs.Opening.{opening}
use Rattle.downstream.specs.Partitions.{map_of}
use Rattle.frame.specs.Frame.{own_of}
use Rattle.engine.specs.declared.naming.Named.{Named}

-- the answer and how many structures are named, and what the list then holds
pub record NamesLeft : Type 0 where
  pub found : Named
  pub names : List ℕ

-- nothing is named: the list is unchanged and the count 0
abbrev pub unnamed : Answer → List ℕ → NamesLeft
unnamed answer names = record { found = record { answer = answer; count = 0 }; names = names }

-- a name for each structure of HLend's count, in map order; past them the list is as it was
unfoldable pub named_in : Station → Hlend → List ℕ → List ℕ → NamesLeft
named_in s h f names =
    record { found = record { answer = Done; count = h.bwmap }; names = put names (names_of (own_of s) (map_of h f) s.carried) }

-- "3 for a list of under 2,047 names": HLend can count so many structures
abbrev pub most_structures : ℕ
most_structures = 2047

abbrev pub names_fit : List ℕ → Bool
names_fit names = leb most_structures (length names)

abbrev pub names_by : Opening → Station → List ℕ → List ℕ → NamesLeft
names_by (Refused answer) s f names = unnamed answer names
names_by (Unread answer) s f names = unnamed answer names
names_by (Opened h) s f names = named_in s h f names

-- "Refusals: 1, 2, 4 and 5 as for a frame, 3 for a list of under 2,047 names"
unfoldable pub why_dark_lem : Station → List ℕ → List ℕ → NamesLeft
why_dark_lem s f names = names_by (opening s f (names_fit names)) s f names

abbrev pub NamesAre : Station → List ℕ → List ℕ → Named → List ℕ → Type 0
NamesAre s f names r left = record { found = r; names = left } ≡ why_dark_lem s f names
