-- `bwmap::names::name_entry` meets its contract.
use mathlib.Core.Path.{◌∙◌, refl, sym, ap}
use lib.ListN.{set}
use Rattle.bwmap.specs.Courses.{ended}
use Rattle.bwmap.proofs.Courses.{head-next, more-next, excess-next, apart_next}
use Rattle.bwmap.proofs.names.name_entry.Goals as goal

pub returns-then-goes_on : goal.returns-then-goes_on
returns-then-goes_on c =
    let a = c.args in
    more-next a.own a.map.now a.names.now a.i a.w c.read_at.result c.requires.0 c.read_at.ensures c.requires.2 _ _ c.in-More.a c.in-More.is c.joined.result c.joined.ensures.0 c.joined.ensures.1 (sym c.goes_on.ensures ∙ c.if-goes_on.true) refl refl

pub returns-in-Head : goal.returns-in-Head
returns-in-Head c =
    let a = c.args in
    head-next a.own a.map.now a.names.now a.i a.w c.read_at.result c.requires.0 c.read_at.ensures c.requires.2 _ _ c.in-Head.h c.in-Head.is _ _ c.end_series-around.ensures.0 c.opened.ensures.0 c.opened.ensures.1 refl c.end_series-around.ensures.1

pub returns-else-goes_on : goal.returns-else-goes_on
returns-else-goes_on c =
    let a = c.args in
    excess-next a.own a.map.now a.names.now a.i a.w c.read_at.result c.requires.0 c.read_at.ensures c.requires.2 _ _ c.in-More.a c.in-More.is (sym c.goes_on.ensures ∙ c.if-goes_on.false) c.name_alone.ensures.0
    (c.name_alone.ensures.1 ∙ ap (set (ended a.names.now a.i a.w.around a.w.series) a.i) c.excess.ensures)

pub returns-in-Apart : goal.returns-in-Apart
returns-in-Apart c =
    let a = c.args in
    apart_next a.own a.map.now a.names.now a.i a.w c.read_at.result c.requires.0 c.read_at.ensures c.requires.2 _ _ c.in-Apart.verdict c.in-Apart.is c.name_alone-in-Apart.ensures.0
    (c.name_alone-in-Apart.ensures.1 ∙ ap (set (ended a.names.now a.i a.w.around a.w.series) a.i) c.number.ensures)
