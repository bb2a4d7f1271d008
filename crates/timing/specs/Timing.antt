-- What a frame time does to the station by itself: "One frame, in order", step (c), and "What comes back", 4 and 5.
-- Assumes nothing.
use Rattle.std.specs.Prelude.{ℕ, ◌-◌, Bool, cond, leb}
use Rattle.station.specs.declared.Activation.{Activation}
use Rattle.station.specs.declared.Activation.TheVariants.{Initial, SerialNumber, Ranging, Operation, Intermittent, EmergencyStop}
use Rattle.station.specs.declared.Station.{Station}
use Rattle.station.specs.Limits.{to2}
use Rattle.ports.specs.Ports.{drop_all_lem}
use Rattle.station.specs.Station.{enter, with_activation_lem, with_ports_lem, with_carried_lem}

-- "TO1 counts down, and at 0 goes to O2-3"
unfoldable pub count_to1_lem : Station → ℕ → Station
count_to1_lem s left = cond (leb left 1) (enter s SerialNumber) (with_activation_lem s (Ranging (left - 1)))

-- "TO2 counts down, and at 0 goes to O1"
unfoldable pub count_to2_lem : Station → ℕ → Station
count_to2_lem s left = cond (leb left 1) (enter s Initial) (with_activation_lem s (Intermittent (left - 1)))

-- (c) "O1 goes to O2-3, O6 to O5; in O4, if the frame arrived in it, TO1 counts down"
abbrev pub end_from : Activation → Station → Bool → Station
end_from Initial s arrivedRanging = enter s SerialNumber
end_from SerialNumber s arrivedRanging = s
end_from (Ranging left) s arrivedRanging = cond arrivedRanging (count_to1_lem s left) s
end_from Operation s arrivedRanging = s
end_from (Intermittent left) s arrivedRanging = with_activation_lem s Operation
end_from EmergencyStop s arrivedRanging = s

unfoldable pub frame_end_lem : Station → Bool → Station
frame_end_lem s arrivedRanging = end_from s.activation s arrivedRanging

-- "Partial SDUs are dropped and every port waits"; "the carried words become 0"
unfoldable pub silence : Station → Station
silence s = with_carried_lem (with_ports_lem s (drop_all_lem s.ports)) 0

-- "It takes O2-3 and O4 to O1, O5 to O6 with TO2 started; in O6, TO2 counts down, and at 0 goes to O1. O1 and O7 stay"
abbrev pub lost_from : Activation → Station → Station
lost_from Initial s = s
lost_from SerialNumber s = enter s Initial
lost_from (Ranging left) s = enter s Initial
lost_from Operation s = with_activation_lem s (Intermittent to2)
lost_from (Intermittent left) s = count_to2_lem s left
lost_from EmergencyStop s = s

unfoldable pub lost_state_lem : Station → Station
lost_state_lem s = lost_from s.activation s

unfoldable pub lost_time_lem : Station → Station
lost_time_lem s = silence (lost_state_lem s)

-- after 4 and 5, "TO1 and TO2 count with their usual effect at 0 .. and the state is otherwise kept"
abbrev pub unread_from : Activation → Station → Station
unread_from Initial s = s
unread_from SerialNumber s = s
unread_from (Ranging left) s = count_to1_lem s left
unread_from Operation s = s
unread_from (Intermittent left) s = count_to2_lem s left
unread_from EmergencyStop s = s

unfoldable pub unread_state_lem : Station → Station
unread_state_lem s = unread_from s.activation s

unfoldable pub unread_time_lem : Station → Station
unread_time_lem s = silence (unread_state_lem s)
