-- No second outcome meets the contract of a public function: for each, any two that do are equal, what the target then
-- holds included. (The contracts of `of`, `word_ahead` and `payload_size` are an equation of the result itself.)
-- Assumes nothing.
use mathlib.Core.Path.{◌≡◌, refl, sym, ap, ◌∙◌}
use mathlib.Core.List.{List}
use Prim.Native.Nat.{ℕ}
use Rattle.std.specs.Prelude.{Err, Ok, Result}
use Rattle.xgem.specs.declared.ReadError.{ReadError}
use Rattle.xgem.specs.declared.ReadError.TheVariants.{Short, Unreadable}
use Rattle.xgem.specs.Reads.{Found, fields, unreadable, short, found_in}
use Rattle.xgem.specs.Writes.{WriteLeft}
use Rattle.answers.specs.declared.Answer.{Answer}
use Rattle.xgem.specs.declared.frame.XgemHeader.{XgemHeader}

tell : {X : Type 0} → Found X → Result X ReadError
tell (fields x) = Ok x
tell unreadable = Err Unreadable
tell short = Err Short

back : {X : Type 0} (r : Result X ReadError) → tell (found_in r) ≡ r
unfolding tell
back (Ok x) = refl
back (Err Unreadable) = refl
back (Err Short) = refl

-- an answer can be told back from what it found
pub read_once : {X : Type 0} (x : Found X) (a b : Result X ReadError) → found_in a ≡ x → found_in b ≡ x → a ≡ b
read_once x a b p q = sym (back a) ∙ ap tell (p ∙ sym q) ∙ back b

-- read_xgem
pub read_xgem_once : (x : Found XgemHeader) (a b : Result XgemHeader ReadError) → found_in a ≡ x → found_in b ≡ x → a ≡ b
read_xgem_once = read_once

-- words::write, write_xgem, write_xgem_frame, and the writers of xgtc: the answer and the target
pub write_once : (l : WriteLeft) (a b : Answer) (u v : List ℕ) → ◌≡◌ {A = WriteLeft} (record { answer = a; target = u }) l → ◌≡◌ {A = WriteLeft} (record { answer = b; target = v }) l → (a ≡ b) × (u ≡ v)
write_once l a b u v p q = (ap (λ (x : WriteLeft). x.answer) (p ∙ sym q), ap (λ (x : WriteLeft). x.target) (p ∙ sym q))
