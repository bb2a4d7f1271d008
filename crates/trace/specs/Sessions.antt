-- A session: the input comes in pieces, as the reads bring it.
-- Assumes nothing.
use Rattle.std.specs.Prelude.{ℕ, List, [], ◌∷◌, ◌++◌}
use Rattle.trace.specs.Records.{records_of_lem, whole_records, left}
use Rattle.trace.specs.Runs.{At, after, lines_of, powered}

abbrev pub joined : List (List ℕ) → List ℕ
joined [] = []
joined (piece ∷ l) = piece ++ joined l

-- what is written, piece by piece: of what was kept and the piece the whole records print their lines, and what is left of
-- it is kept; at the end of the input what was kept is a record that is too short, or nothing
abbrev pub written_from : At → List ℕ → List (List ℕ) → List ℕ
written_from p kept [] = lines_of p (records_of_lem kept)
written_from p kept (piece ∷ l) =
    lines_of p (whole_records (kept ++ piece)) ++ written_from (after p (whole_records (kept ++ piece))) (left (kept ++ piece)) l

abbrev pub written_of : List (List ℕ) → List ℕ
written_of pieces = written_from powered [] pieces
