-- `trace::records::kind_of` meets its contract.
use Rattle.std.proofs.Common.{arith, eq-eqb, ne_eqb}
use Rattle.std.specs.Prelude.{slice_index}
use Rattle.trace.specs.Records.{kind_of}
use Rattle.trace.proofs.records.kind_of.Goals.{then-octets-ne-RECORD-via-then-octets-ne-RECORD, then-octets-ne-RECORD-via-else-octets-ne-RECORD+then-octets-ne0, then-octets-ne-RECORD-via-else-octets-ne-RECORD+else-octets-ne0+then-octets-ne0-2, then-octets-ne-RECORD-via-else-octets-ne-RECORD+else-octets-ne0+else-octets-ne0-2+then-octets-ne0-3}
use Rattle.trace.proofs.records.kind_of.Goals as goal

pub returns-then-octets-ne-RECORD : goal.returns-then-octets-ne-RECORD
unfolding kind_of
returns-then-octets-ne-RECORD c =
    elim c.then-octets-ne-RECORD.branch [
      | then-octets-ne-RECORD-via-then-octets-ne-RECORD w ↦ rw (ne_eqb _ _ w.if-octets-ne-RECORD.true)
      | then-octets-ne-RECORD-via-else-octets-ne-RECORD+then-octets-ne0 w ↦ rw (eq-eqb _ _ w.if-octets-ne-RECORD.false, ne_eqb _ _ w.if-octets-ne0.true)
      | then-octets-ne-RECORD-via-else-octets-ne-RECORD+else-octets-ne0+then-octets-ne0-2 w ↦ rw (eq-eqb _ _ w.if-octets-ne-RECORD.false, eq-eqb _ _ w.if-octets-ne0.false, ne_eqb _ _ w.if-octets-ne0-2.true)
      | then-octets-ne-RECORD-via-else-octets-ne-RECORD+else-octets-ne0+else-octets-ne0-2+then-octets-ne0-3 w ↦ rw (eq-eqb _ _ w.if-octets-ne-RECORD.false, eq-eqb _ _ w.if-octets-ne0.false, eq-eqb _ _ w.if-octets-ne0-2.false, ne_eqb _ _ w.if-octets-ne0-3.true)
    ]

pub returns-in-0 : goal.returns-in-0
unfolding kind_of
returns-in-0 c = rw (eq-eqb _ _ c.if-octets-ne-RECORD.false, eq-eqb _ _ c.if-octets-ne0.false, eq-eqb _ _ c.if-octets-ne0-2.false, eq-eqb _ _ c.if-octets-ne0-3.false, c.in-0.is)

pub returns-in-1 : goal.returns-in-1
unfolding kind_of
returns-in-1 c = rw (eq-eqb _ _ c.if-octets-ne-RECORD.false, eq-eqb _ _ c.if-octets-ne0.false, eq-eqb _ _ c.if-octets-ne0-2.false, eq-eqb _ _ c.if-octets-ne0-3.false, c.in-1.is)

pub returns-in_default : goal.returns-in_default
unfolding kind_of
returns-in_default c = rw (eq-eqb _ _ c.if-octets-ne-RECORD.false, eq-eqb _ _ c.if-octets-ne0.false, eq-eqb _ _ c.if-octets-ne0-2.false, eq-eqb _ _ c.if-octets-ne0-3.false, ne_eqb (slice_index c.args.octets.now 0) 0 (λ e. omega (arith, e)), ne_eqb (slice_index c.args.octets.now 0) 1 (λ e. omega (arith, e)))
