-- `bwmap::name_map` meets its contract.
use mathlib.Core.Path.{◌∙◌, sym}
use borrow.Author.Tests.{le-leb}
use Rattle.std.specs.Prelude.{Some}
use Rattle.series.specs.Series.{entry_count}
use Rattle.bwmap.proofs.Courses.{silent-names}
use Rattle.bwmap.proofs.name_map.Goals as goal

pub returns-then-is_silent : goal.returns-then-is_silent
returns-then-is_silent c =
    let a = c.args in
    let e = silent-names a.own a.map.now a.names.now _ a.carried (sym c.is_silent.ensures ∙ c.if-is_silent.true) c.if-names-n.false c.fill.ensures in
    rw (le-leb _ _ c.if-names-n.false) (λ j. record { answer = Some (entry_count a.map.now); names = e j })

pub returns : goal.returns
returns c =
    let a = c.args in
    rw (le-leb _ _ c.if-names-n.false) (λ j. record { answer = Some (entry_count a.map.now); names = c.name_entries.ensures j })
