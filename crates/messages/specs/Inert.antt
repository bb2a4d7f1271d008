-- The messages that do nothing whatever else they say: "address is ours or 1023", and "an answer is needed and 8 are owed".
-- Assumes nothing.
use Rattle.std.specs.Prelude.{ℕ, zero, suc, ◌+◌, Bool, true, false, not, cond, List, eqb, leb}
use Rattle.ids.specs.declared.OnuId.{OnuId}
use Rattle.ids.specs.Ids.{same_onu, broadcast_onu}
use Rattle.ploam.specs.Layout.{message_at, address_of, type_of, deactivate_onu_id}
use Rattle.link.specs.declared.Queue.{Queue}
use Rattle.link.specs.Limits.{most_owed}

abbrev pub full_of : Queue → Bool
full_of owed = leb most_owed owed.count

-- for another station; or directed to this one, while no further answer can be owed, and of a type that needs one or is
-- ignored when directed: all but Deactivate_ONU-ID
unfoldable pub inert : OnuId → Bool → List ℕ → Bool
inert onu full m =
    cond (same_onu (address_of m) broadcast_onu) false
    (cond (same_onu (address_of m) onu) (cond full (not (eqb (type_of m) deactivate_onu_id)) false) true)

-- of the k messages from i on, the first that is not inert, or the one after them
abbrev pub past_inert_lem : OnuId → Bool → List ℕ → ℕ → ℕ → ℕ
past_inert_lem onu full b i zero = i
past_inert_lem onu full b i (suc k) = cond (inert onu full (message_at b i)) (past_inert_lem onu full b (i + 1) k) i
