-- The station of the message benchmark, in O5 with ONU-ID 5 and a key, and how many messages are genuine.
-- Assumes nothing.
use Rattle.std.specs.Prelude.{Bool, cond, List, [], ◌∷◌, ℕ, ◌+◌, replicate}
use Rattle.cmac.specs.declared.Prepared.{Prepared}
use Rattle.integrity.specs.Integrity.{genuine, genuine_by}
use Rattle.link.specs.Link.{nothing, installed, with_onu_lem, with_key_lem}
use Rattle.station.specs.Station.{power_on_lem, with_link_lem, with_activation_lem}
use Rattle.station.specs.declared.Activation.TheVariants.{Operation}
use Rattle.station.specs.declared.Station.{Station}

abbrev pub bench_key : List ℕ
bench_key = replicate 16 9

abbrev pub bench_station_lem : Station
bench_station_lem =
    with_activation_lem
    (with_link_lem (power_on_lem (replicate 8 1) (replicate 36 7)) (with_key_lem (with_onu_lem nothing (record { 0 = 5 })) (installed bench_key)))
    Operation

abbrev pub one_if_lem : Bool → ℕ
one_if_lem b = cond b 1 0

abbrev pub genuine_count : List ℕ → List (List ℕ) → ℕ
genuine_count key [] = 0
genuine_count key (m ∷ l) = one_if_lem (genuine key m) + genuine_count key l

-- the same by a lent table and prepared keys
abbrev pub genuine_count_by : Prepared → Prepared → List (List ℕ) → ℕ
genuine_count_by usual installed [] = 0
genuine_count_by usual installed (m ∷ l) = one_if_lem (genuine_by usual installed m) + genuine_count_by usual installed l
