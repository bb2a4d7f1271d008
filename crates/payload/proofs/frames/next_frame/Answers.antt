-- `payload::frames::next_frame` meets its contract: a word is looked at only where there is one.
use Prim.Native.Nat.{ℕ}
use mathlib.Core.Path.{◌≡◌, sym, ap, ◌∙◌}
use Prim.Native.Nat.{◌+◌, ◌≤◌}
use native.Mathlib.Omega.{arith}
use lib.ListN.{length}
use Rattle.std.specs.Prelude.{Option}
use Rattle.hec.specs.declared.Word.{Word}
use Rattle.hec.specs.Reads.{found_word}
use Rattle.xgem.specs.declared.frame.XgemHeader.{XgemHeader}
use Rattle.xgem.specs.Layouts.{xgem_of, payload_size_lem}
use Rattle.xgem.specs.Reads.{Found, fields, unreadable, taken, read_xgem_lem}
use Rattle.payload.proofs.Reading.{found-ahead, pli_lt, done-ahead, lost_ahead, long-ahead, frame-ahead}
use borrow.Author.Rules.{rules}
use Rattle.payload.proofs.frames.next_frame.Goals.{After-of-x, Else-left-lt-XGEM_HEADER_BYTES}
use Rattle.payload.proofs.frames.next_frame.Goals as goal

-- where there is a word, what is found by it is what stands there
read : (c : Else-left-lt-XGEM_HEADER_BYTES) → let s = c.args.left.now in (x : Found XgemHeader) → x ≡ taken xgem_of (found_word c.read64_by_octets-read.result) → x ≡ read_xgem_lem s
read c x e =
    found-ahead c.args.left.now c.word_ahead.result (found_word c.read64_by_octets-read.result) x c.if-left-lt-XGEM_HEADER_BYTES.false c.word_ahead.ensures (search rules) c.read64_by_octets-read.ensures e

-- the fields of a word that was read
fielded : (c : After-of-x) → fields c.of-x.result ≡ read_xgem_lem c.args.left.now
fielded c =
    found-ahead c.args.left.now c.word_ahead.result (found_word c.read64_by_octets-read.result) (fields c.of-x.result) c.if-left-lt-XGEM_HEADER_BYTES.false c.word_ahead.ensures (search rules) c.read64_by_octets-read.ensures
    (ap fields c.of-x.ensures ∙ ap (λ (r : Option (Word ℕ)). taken xgem_of (found_word r)) (sym c.in-Some.is))

pub returns-then-left-lt-XGEM_HEADER_BYTES : goal.returns-then-left-lt-XGEM_HEADER_BYTES
returns-then-left-lt-XGEM_HEADER_BYTES c = (done-ahead c.args.left.now c.if-left-lt-XGEM_HEADER_BYTES.true, tt)

pub returns-in-None : goal.returns-in-None
returns-in-None c = (lost_ahead c.args.left.now (read (goal.at.returns-in-None c).Else-left-lt-XGEM_HEADER_BYTES unreadable (ap (λ (r : Option (Word ℕ)). taken xgem_of (found_word r)) (sym c.in-None.is))), tt)

pub returns-then-left-payload_size : goal.returns-then-left-payload_size
returns-then-left-payload_size c = (long-ahead c.args.left.now c.of-x.result (fielded (goal.at.returns-then-left-payload_size c).After-of-x) (omega (arith, c.payload_size.ensures, c.if-left-payload_size.true, c.if-left-lt-XGEM_HEADER_BYTES.false)), tt)

pub returns-else-left-payload_size : goal.returns-else-left-payload_size
returns-else-left-payload_size c =
    let s = c.args.left.now in
    let x = c.of-x.result in
    let e = fielded (goal.at.returns-else-left-payload_size c).After-of-x in
    let h : 8 + payload_size_lem x.pli ≤ length s = omega (arith, c.payload_size.ensures, c.if-left-payload_size.false, c.if-left-lt-XGEM_HEADER_BYTES.false) in
    (frame-ahead s x e h, (pli_lt s x e, h))
