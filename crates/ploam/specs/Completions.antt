-- The completion codes of Acknowledgement, 11.3.4.4: those that document 01 sends.
-- Assumes nothing.
use Rattle.std.specs.Prelude.{ℕ}
use Rattle.ploam.specs.declared.Completion.{Completion}
use Rattle.ploam.specs.declared.Completion.TheVariants.{Ok, NoMessage, UnknownMessageType, ParameterError, ProcessingError}

abbrev pub completion_code : Completion → ℕ
completion_code Ok = 0
completion_code NoMessage = 1
completion_code UnknownMessageType = 3
completion_code ParameterError = 4
completion_code ProcessingError = 5
