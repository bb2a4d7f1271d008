-- What an effect does to the station.
-- Assumes nothing.
use Rattle.std.specs.Prelude.{None, Option, Some, ℕ, ◌≡◌}
use Rattle.link.specs.declared.Owed.{Owed}
use Rattle.ids.specs.declared.OnuId.{OnuId}
use Rattle.station.specs.declared.Activation.TheVariants.{Ranging, Operation}
use Rattle.station.specs.declared.Station.{Station}
use Rattle.station.specs.Limits.{to1}
use Rattle.link.specs.Link.{with_onu_lem, with_delay_lem, with_allocs_lem, with_owed_lem, add_alloc, remove_alloc, owe}
use Rattle.ports.specs.Ports.{clear_management_lem}
use Rattle.station.specs.Station.{enter, with_activation_lem, with_link_lem, with_ports_lem}
use Rattle.effects.specs.declared.Change.{Change}
use Rattle.effects.specs.declared.Change.TheVariants.{Keep, Identify, Range, Delay, AddAlloc, RemoveAlloc, Enter}
use Rattle.effects.specs.declared.Effect.{Effect}

-- to O4, with TO1 started
unfoldable pub identify : Station → OnuId → Station
identify s onu = with_activation_lem (with_link_lem s (with_onu_lem s.link onu)) (Ranging to1)

-- O4 to O5: "on O4 to O5 the management port doesn't [wait]"
unfoldable pub range : Station → ℕ → Station
range s delay = with_activation_lem (with_ports_lem (with_link_lem s (with_delay_lem s.link delay)) (clear_management_lem s.ports)) Operation

unfoldable pub set_delay_lem : Station → ℕ → Station
set_delay_lem s delay = with_link_lem s (with_delay_lem s.link delay)

abbrev pub apply_change_lem : Station → Change → Station
apply_change_lem s Keep = s
apply_change_lem s (Identify onu) = identify s onu
apply_change_lem s (Range delay) = range s delay
apply_change_lem s (Delay delay) = set_delay_lem s delay
apply_change_lem s (AddAlloc id) = with_link_lem s (with_allocs_lem s.link (add_alloc s.link.allocs id))
apply_change_lem s (RemoveAlloc id) = with_link_lem s (with_allocs_lem s.link (remove_alloc s.link.allocs id))
apply_change_lem s (Enter a) = enter s a

abbrev pub apply_debt_lem : Station → Option Owed → Station
apply_debt_lem s None = s
apply_debt_lem s (Some answer) = with_link_lem s (with_owed_lem s.link (owe s.link.owed answer))

unfoldable pub applied : Station → Effect → Station
applied s e = apply_debt_lem (apply_change_lem s e.change) e.debt

abbrev pub Applies : Station → Effect → Station → Type 0
Applies s e r = r ≡ applied s e
