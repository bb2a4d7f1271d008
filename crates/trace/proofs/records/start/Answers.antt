-- `trace::records::start` meets its contract.
use Rattle.trace.proofs.records.start.Goals as goal

pub returns : goal.returns
returns c = cc
