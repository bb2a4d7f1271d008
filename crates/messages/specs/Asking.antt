-- What an effect asks of the state.
-- Assumes nothing.
use Rattle.std.specs.Prelude.{None, Option, Some}
use Rattle.link.specs.declared.Owed.{Owed}
use Rattle.effects.specs.declared.Change.{Change}
use Rattle.effects.specs.declared.Change.TheVariants.{Keep, Identify, Range, Delay as Delays, AddAlloc, RemoveAlloc, Enter}
use Rattle.messages.specs.declared.Asked.{Asked}
use Rattle.messages.specs.declared.Asked.TheVariants.{Nothing, Delay, More}

-- a change asks for nothing, for the delay alone, or for more
abbrev pub alone : Change → Asked
alone Keep = Nothing
alone (Identify onu) = More
alone (Range delay) = More
alone (Delays delay) = Delay delay
alone (AddAlloc id) = More
alone (RemoveAlloc id) = More
alone (Enter a) = More

abbrev pub asked_of : Change → Option Owed → Asked
asked_of change None = alone change
asked_of change (Some answer) = More
