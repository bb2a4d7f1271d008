-- `integrity::cover` meets its contract.
use mathlib.Core.Path.{◌∙◌}
use Prim.Native.Nat.{◌+◌, ◌-◌}
use native.Mathlib.Omega.{arith}
use lib.ListN.{set, take, length-set, length-take, length-drop}
use Rattle.std.proofs.lemmas.Slice.{put_mid-paste}
use Rattle.integrity.proofs.RowByRow.{code_first}
use Rattle.integrity.proofs.cover.Goals as goal

pub copy_from_slice-requires : goal.copy_from_slice-requires
copy_from_slice-requires c = simp (length-take, length-drop, length-set) (omega (arith, c.requires.0, c.requires.1))

pub returns : goal.returns
returns c =
    let a = c.args in
    put_mid-paste (a.at + 1) (a.at + 1 + 40 - (a.at + 1)) (set a.rows.now a.at a.code) c.copy_from_slice.new.self (take 40 a.m.now) 40 c.copy_from_slice.ensures.after
    (omega arith) (simp length-take (omega (arith, c.requires.0)))
    ∙ code_first a.rows.now a.m.now a.code a.at c.requires.1
