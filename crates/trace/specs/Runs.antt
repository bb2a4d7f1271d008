-- The bench run: what each record prints and leaves, from power-on to the end of the input.
-- Assumes nothing.
use Rattle.std.specs.Prelude.{ℕ, ◌+◌, ◌%◌, ◌^◌, true, false, cond, List, [], ◌∷◌, ◌++◌, length, take, replicate}
use Rattle.station.specs.declared.Station.{Station}
use Rattle.station.specs.Station.{power_on_lem}
use Rattle.station.specs.declared.Outcome.{Outcome}
use Rattle.station.specs.Limits.{serial_octets_lem, registration_octets_lem}
use Rattle.answers.specs.Answers.{answer_number}
use Rattle.station.specs.States.{state_number}
use Rattle.payload.specs.Memory.{put}
use Rattle.payload.specs.Walk.{memory_bytes}
use Rattle.plan.specs.Limits.{plan_numbers}
use Rattle.frame.specs.declared.Counts.{Counts}
use Rattle.frame.specs.Given.{Lent, arriving, lending, reply_octets}
use Rattle.frame.specs.Frame.{FrameLeft, no_counts, frame_left}
use Rattle.engine.specs.Lods.{lost_left}
use Rattle.trace.specs.declared.records.Kind.{Kind}
use Rattle.trace.specs.declared.records.Kind.TheVariants.{Lost, Frame, Bad}
use Rattle.trace.specs.declared.records.Run.{Run}
use Rattle.trace.specs.Lines.{spaced, bad_line}
use Rattle.trace.specs.Records.{frame_bytes, kind_of, frame_of, records_of_lem, whole_records, left}

-- "Line: record number, answer, state (O2-3 prints 2), plan records, replies, delivery bytes"
abbrev pub line_of : ℕ → Outcome → Counts → List ℕ
line_of number o c =
    spaced (number ∷ answer_number o.answer ∷ state_number o.station.activation ∷ c.records ∷ c.replies ∷ c.bytes ∷ [])

-- where a run stands, and what its frame calls are lent
pub record At : Type 0 where
  pub run : Run
  pub lent : Lent

-- what a record leaves, and the line that it prints
pub record Step : Type 0 where
  pub at : At
  pub line : List ℕ

-- "Records count from 0": numbers are of 64 bits, and 0 follows the last of them
abbrev pub onward : Run → Station → Run
onward run s = record { station = s; number = (run.number + 1) % 2 ^ 64; stopped = run.stopped }

abbrev pub stop : Run → Run
stop run = record { station = run.station; number = run.number; stopped = true }

-- a record whose call left this
abbrev pub step_to : At → FrameLeft → Step
step_to p l = record { at = record { run = onward p.run l.outcome.station; lent = l.lent }; line = line_of p.run.number l.outcome l.counts }

-- a lost frame time writes nothing. "Kind 0 leaves its last 1,020 bytes unread"
abbrev pub lost_in : At → FrameLeft
lost_in p = record { outcome = lost_left p.run.station; counts = no_counts; lent = p.lent }

-- "random delay 0"
abbrev pub frame_in : At → List ℕ → FrameLeft
frame_in p x = frame_left p.run.station (arriving (frame_of x) 0) p.lent

abbrev pub step_by : Kind → At → List ℕ → Step
step_by Lost p x = step_to p (lost_in p)
step_by Frame p x = step_to p (frame_in p x)
step_by Bad p x = record { at = record { run = stop p.run; lent = p.lent }; line = bad_line p.run.number }

-- a bad record "prints its number and `bad`, then stops"
unfoldable pub step : At → List ℕ → Step
step p x = cond p.run.stopped (record { at = p; line = [] }) (step_by (kind_of x) p x)

-- what records leave and print, one after another
abbrev pub after : At → List (List ℕ) → At
after p [] = p
after p (x ∷ l) = after (step p x).at l

abbrev pub lines_of : At → List (List ℕ) → List ℕ
lines_of p [] = []
lines_of p (x ∷ l) = (step p x).line ++ lines_of (step p x).at l

-- "The station has a serial number and Registration ID of zero bytes, no added ports"
abbrev pub start : Run
start = record { station = power_on_lem (replicate serial_octets_lem 0) (replicate registration_octets_lem 0); number = 0; stopped = false }

-- ---- lines put into a text

-- what records leave, the text with their lines from a place on, and the place behind them
pub record Shown : Type 0 where
  pub at : At
  pub text : List ℕ
  pub place : ℕ

abbrev pub shown_by : Step → List ℕ → ℕ → Shown
shown_by s text place = record { at = s.at; text = put text place s.line; place = place + length s.line }

unfoldable pub shown : At → List (List ℕ) → List ℕ → ℕ → Shown
shown p l text place = record { at = after p l; text = put text place (lines_of p l); place = place + length (lines_of p l) }

-- ---- one turn: what has been read and not yet handled stands at the front of the input

-- the lines of its whole records stand at the front of the text, and what is left of it at the front of the input
pub record Turned : Type 0 where
  pub at : At
  pub input : List ℕ
  pub kept : ℕ
  pub text : List ℕ
  pub written : ℕ

abbrev pub turned_by : At → List ℕ → List ℕ → List ℕ → Turned
turned_by p input block text =
    record {
      at = after p (whole_records block);
      input = put input 0 (left block);
      kept = length (left block);
      text = put text 0 (lines_of p (whole_records block));
      written = length (lines_of p (whole_records block));
    }

unfoldable pub turned : At → List ℕ → ℕ → List ℕ → Turned
turned p input filled text = turned_by p input (take filled input) text

-- ---- the whole run

-- "no added ports"; what is lent holds zeros
abbrev pub powered : At
powered =
    record {
      run = start;
      lent = lending (replicate memory_bytes 0) (replicate plan_numbers 0) (replicate reply_octets 0) (replicate (frame_bytes + memory_bytes) 0);
    }

-- all that the program prints of an input; "an end after a whole record prints nothing"
unfoldable pub trace_of : List ℕ → List ℕ
trace_of input = lines_of powered (records_of_lem input)
