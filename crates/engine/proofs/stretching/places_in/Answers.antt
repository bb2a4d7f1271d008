-- `engine::stretching::places_in` meets its contract.
use mathlib.Core.Path.{◌∙◌, sym, ap}
use Rattle.engine.specs.declared.stretching.StretchPlaces.{StretchPlaces}
use Rattle.engine.specs.Stretch.{PlacesLeft, places_in_lem}
use Rattle.engine.proofs.Each.{all_placed}
use Rattle.engine.proofs.stretching.places_in.Goals as goal

pub returns-then-not-is_operating : goal.returns-then-not-is_operating
unfolding places_in_lem
returns-then-not-is_operating c = rw (sym c.is_operating.ensures ∙ c.if-not-is_operating.true) (ap {B = PlacesLeft} (λ (x : StretchPlaces). record { found = x; places = c.args.places.now }) c.nothing.ensures)

pub returns : goal.returns
returns c =
    let a = c.args in
    all_placed a.s a.h a.frame.now a.places.now c.requires c.management_port.result c.header_end-end.result _ _ _ (sym c.is_operating.ensures ∙ c.if-not-is_operating.false) c.management_port.ensures c.header_end-end.ensures c.stretch_places-p.ensures c.answer_if.ensures
