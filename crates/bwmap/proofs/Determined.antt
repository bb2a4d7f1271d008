-- No second outcome: what each walk answers and leaves in what it is lent is fixed by what it is given.
-- Assumes nothing.
use Prim.Native.Nat.{ℕ}
use mathlib.Core.Path.{◌≡◌, ◌∙◌, sym, ap}
use mathlib.Core.List.{List}
use Rattle.std.specs.Prelude.{Option, ℕ}
use Rattle.bwmap.specs.declared.Plan.{Plan}
use Rattle.entries.specs.declared.Own.{Own}
use Rattle.bwmap.specs.Plan.{PlanLeft, MapLeaves}
use Rattle.bwmap.specs.Names.{NamesLeft, NamesAre}

pub map_determined
    : (own : Own) (m : List ℕ) (carried : ℕ) (plan : List ℕ) (a b : Option Plan) (x y : List ℕ) → MapLeaves own m carried plan a x → MapLeaves own m carried plan b y
    → (a ≡ b) × (x ≡ y)
map_determined own m carried plan a b x y p q =
    let e : ◌≡◌ {A = PlanLeft} (record { answer = a; plan = x }) (record { answer = b; plan = y }) = p ∙ sym q in
    (ap (λ (l : PlanLeft). l.answer) e, ap (λ (l : PlanLeft). l.plan) e)

pub names_determined
    : (own : Own) (m : List ℕ) (carried : ℕ) (names : List ℕ) (a b : Option ℕ) (x y : List ℕ) → NamesAre own m carried names a x → NamesAre own m carried names b y
    → (a ≡ b) × (x ≡ y)
names_determined own m carried names a b x y p q =
    let e : ◌≡◌ {A = NamesLeft} (record { answer = a; names = x }) (record { answer = b; names = y }) = p ∙ sym q in
    (ap (λ (l : NamesLeft). l.answer) e, ap (λ (l : NamesLeft). l.names) e)
