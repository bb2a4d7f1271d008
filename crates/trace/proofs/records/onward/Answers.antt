-- `trace::records::onward` meets its contract.
use Rattle.trace.proofs.records.onward.Goals as goal

pub returns : goal.returns
returns c = cc
