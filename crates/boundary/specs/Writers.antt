-- The writers over numbers, however wide: "a value too wide for its field" is answered 11, "nothing changed". What fits is the
-- engine's to say of each field; a mark is a field of one bit.
-- Assumes nothing.
use Rattle.std.specs.Prelude.{ℕ, ◌&&◌, cond, List, eqb, ltb}
use Rattle.answers.specs.Answers.{answer_number}
use Rattle.answers.specs.declared.Answer.TheVariants.{NotWritten}
use Rattle.xgem.specs.Writes.{WriteLeft, write_xgem_frame_lem}
use Rattle.xgtc.specs.Writes.{write_hlend_lem, write_allocation_lem}

-- the answer's number, and what the target then holds
pub record Target : Type 0 where
  pub answer : ℕ
  pub target : List ℕ

abbrev pub written : WriteLeft → Target
written l = record { answer = answer_number l.answer; target = l.target }

abbrev pub not_written : List ℕ → Target
not_written t = written (record { answer = NotWritten; target = t })

unfoldable pub hlend_in : ℕ → ℕ → List ℕ → Target
hlend_in bwmap ploam t = written (write_hlend_lem (record { bwmap = bwmap; ploam = ploam }) t)

unfoldable pub allocation_in : ℕ → ℕ → ℕ → ℕ → ℕ → ℕ → ℕ → List ℕ → Target
allocation_in alloc dbru ploamu start grant fwi profile t =
    cond (ltb dbru 2 && (ltb ploamu 2 && ltb fwi 2))
    (written
    (write_allocation_lem
    (record {
      alloc = record { 0 = alloc };
      dbru = eqb dbru 1;
      ploamu = eqb ploamu 1;
      start = start;
      grant = grant;
      fwi = eqb fwi 1;
      profile = profile;
    })
    t))
    (not_written t)

-- the PLI is the SDU's length
unfoldable pub xgem_frame_in : ℕ → ℕ → ℕ → ℕ → List ℕ → List ℕ → Target
xgem_frame_in key port options last sdu t =
    cond (ltb last 2)
    (written (write_xgem_frame_lem (record { pli = 0; key = key; port = record { 0 = port }; options = options; last = eqb last 1 }) sdu t))
    (not_written t)
