-- What is signed is found right: its integrity field is right under the same key and direction.
-- Assumes nothing.
use mathlib.Core.Path.{◌≡◌, ◌∙◌, refl, sym, ap, ap₂}
use mathlib.Core.Bool.{Bool, true, ◌&&◌}
use mathlib.Core.List.{List, ◌∷◌, ◌++◌, append_assoc}
use Prim.Native.Nat.{ℕ, ◌≤◌}
use native.Mathlib.Omega.{arith}
use lib.ListN.{length, take, drop, length-append}
use lib.Seq.{take_at, drop_at, take_all}
use borrow.Author.Tests.{le-leb}
use Rattle.aes.specs.Cipher.{last_of, aes128}
use Rattle.cmac.specs.Mac.{cmac, cmac64}
use Rattle.ploam.specs.Layout.{message_octets, covered_octets, mic_field}
use Rattle.integrity.specs.Integrity.{direction_code_lem, covered, mic_of, same, mic_right_lem}
use Rattle.integrity.specs.declared.Direction.{Direction}
use Rattle.integrity.proofs.Same.{same_refl}

pub mic_length : (key m : List ℕ) → length (cmac64 key m) ≡ 8
unfolding cmac aes128 last_of
mic_length key m = refl

-- octets 1 to 40 signed under any key, in either direction, have the right integrity field
pub signed_right : (key : List ℕ) (direction : Direction) (octets rest : List ℕ) → length octets ≡ covered_octets
    → mic_right_lem key direction (octets ++ mic_of key direction octets ++ rest) ≡ true
unfolding mic_right_lem
signed_right key direction octets rest lo =
    let mic = mic_of key direction octets in
    let m = octets ++ mic ++ rest in
    let assoc = append_assoc octets mic rest in
    let e40 : take covered_octets m ≡ octets = ap (take covered_octets) assoc ∙ take_at octets (mic ++ rest) covered_octets lo in
    let lm = mic_length key (covered direction octets) in
    let e8 : mic_field m ≡ mic =
    ap (λ (l : List ℕ). take 8 (drop covered_octets l)) assoc
    ∙ ap (take 8) (drop_at octets (mic ++ rest) covered_octets lo)
    ∙ take_at mic rest 8 lm
    in
    let h : message_octets ≤ length m = simp (length-append) (omega arith) in
    ap (λ (b : Bool). b && same (mic_field m) (mic_of key direction m)) (le-leb message_octets (length m) h)
    ∙ ap₂ same e8
    (ap (λ (l : List ℕ). cmac64 key (direction_code_lem direction ∷ l)) (e40 ∙ sym (take_all covered_octets octets (omega arith))))
    ∙ same_refl mic
