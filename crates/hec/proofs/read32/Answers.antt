-- `hec::read32` meets its contract: what 64 bits read as, where the first 32 are 0.
use Prim.Native.Nat.{ℕ}
use mathlib.Core.Path.{refl, sym, ap, ◌∙◌, subst}
use Rattle.std.specs.Prelude.{Option}
use Rattle.hec.specs.declared.Word.{Word}
use Rattle.hec.specs.Reads.{Reads, word, found_word}
use Rattle.hec.specs.Mends.{sent}
use Rattle.hec.proofs.Mending.{clean, mended, short}
use Rattle.hec.proofs.Steps.{sent_word, not_sent}
use borrow.Author.Rules.{rules}
use Rattle.hec.proofs.read32.Goals as goal

pub returns-then-s-eq0 : goal.returns-then-s-eq0
returns-then-s-eq0 c =
    let w = c.args.word in
    subst (Reads 32 w) (sent_word _ _ refl (search rules)) (short w (search rules) (word w) (clean w (search rules) (sym c.syndrome-s.ensures ∙ c.if-s-eq0.true)))

pub returns-then-v-lt4294967296 : goal.returns-then-v-lt4294967296
returns-then-v-lt4294967296 c =
    let w = c.args.word in
    subst (Reads 32 w) (sent_word _ _ (ap found_word c.in-Some.is) (search rules))
    (short w (search rules) (found_word c.mend-read.result) (mended w _ _ _ (search rules) c.syndrome-s.ensures c.flips.ensures c.mend-read.ensures))

pub returns-else-v-lt4294967296 : goal.returns-else-v-lt4294967296
returns-else-v-lt4294967296 c =
    let w = c.args.word in
    subst (Reads 32 w) (not_sent _ _ (ap found_word c.in-Some.is) (search rules))
    (short w (search rules) (found_word c.mend-read.result) (mended w _ _ _ (search rules) c.syndrome-s.ensures c.flips.ensures c.mend-read.ensures))

pub returns-in-None : goal.returns-in-None
returns-in-None c =
    let w = c.args.word in
    subst (Reads 32 w) (ap (λ (x : Option (Word ℕ)). sent (found_word x)) c.in-None.is)
    (short w (search rules) (found_word c.mend-read.result) (mended w _ _ _ (search rules) c.syndrome-s.ensures c.flips.ensures c.mend-read.ensures))
