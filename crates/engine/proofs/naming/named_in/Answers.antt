-- `engine::naming::named_in` meets its contract: a list that has room for all names is never too short.
use Rattle.downstream.proofs.Laws.{map-part}
use Rattle.engine.proofs.AllNamed.{all_named, never_short}
use Rattle.engine.proofs.naming.named_in.Goals as goal

pub returns-in-Some : goal.returns-in-Some
returns-in-Some c =
    let a = c.args in
    all_named a.s a.h a.frame.now a.names.now _ _ _ (map-part a.h a.frame.now _ c.map_end-end.ensures) c.requires.0 c.requires.1 c.requires.2 (rw c.own_of.ensures at c.name_map.ensures) _ c.in-Some.is

pub returns-in-None : goal.returns-in-None
returns-in-None c =
    let a = c.args in
    never_short a.s a.h a.frame.now a.names.now _ _ _ (map-part a.h a.frame.now _ c.map_end-end.ensures) c.requires.0 c.requires.1 c.requires.2 (rw c.own_of.ensures at c.name_map.ensures) c.in-None.is
