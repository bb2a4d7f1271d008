-- What a message can do: change the state, and have an answer owed.
-- Assumes nothing.
use Rattle.std.specs.Prelude.{None, Option, Some, ℕ, Bool, true, false, ◌&&◌}
use Rattle.link.specs.declared.Owed.{Owed}
use Rattle.ploam.specs.declared.Completion.{Completion}
use Rattle.link.specs.declared.Response.{Response}
use Rattle.link.specs.declared.Response.TheVariants.{Acknowledgement}
use Rattle.effects.specs.declared.Change.{Change}
use Rattle.effects.specs.declared.Change.TheVariants.{Keep, Identify, Range, Delay, AddAlloc, RemoveAlloc, Enter}
use Rattle.effects.specs.declared.Effect.{Effect}

-- "All else is ignored"
abbrev pub ignored : Effect
ignored = record { change = Keep; debt = None }

abbrev pub does : Change → Effect
does change = record { change = change; debt = None }

abbrev pub owes : Change → Response → ℕ → Effect
owes change response seq = record { change = change; debt = Some (record { response = response; seq_no = seq }) }

abbrev pub answers : Change → Completion → ℕ → Effect
answers change code seq = owes change (Acknowledgement code) seq

-- ---- whether it does anything

abbrev pub kept : Change → Bool
kept Keep = true
kept (Identify onu) = false
kept (Range delay) = false
kept (Delay delay) = false
kept (AddAlloc id) = false
kept (RemoveAlloc id) = false
kept (Enter a) = false

abbrev pub free : Option Owed → Bool
free None = true
free (Some answer) = false

abbrev pub is_ignored_lem : Effect → Bool
is_ignored_lem e = kept e.change && free e.debt
