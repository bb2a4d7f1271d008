-- No second outcome meets a contract of this crate; right means equal.
-- Assumes nothing.
use mathlib.Core.Path.{◌≡◌, ◌∙◌, sym}
use mathlib.Core.Bool.{Bool, true}
use mathlib.Core.List.{List}
use Prim.Native.Nat.{ℕ}
use lib.Dec.{leb}
use lib.ListN.{length}
use Rattle.cmac.specs.Tags.{mac64_by}
use Rattle.cmac.specs.declared.Prepared.{Prepared}
use Rattle.ploam.specs.Layout.{message_octets, mic_field}
use Rattle.integrity.specs.Integrity.{covered, same, mic_of, mic_right_lem, mic_right_by, genuine_by}
use Rattle.integrity.specs.Rights.{rights_by}
use Rattle.integrity.specs.declared.Direction.{Direction}
use Rattle.integrity.proofs.Same.{right_true, same-equal}

pub check_determined : (key : Prepared) (direction : Direction) (m : List ℕ) (a b : Bool)
    → a ≡ mic_right_by key direction m → b ≡ mic_right_by key direction m → a ≡ b
check_determined key direction m a b p q = p ∙ sym q

pub genuine_determined : (usual installed : Prepared) (m : List ℕ) (a b : Bool)
    → a ≡ genuine_by usual installed m → b ≡ genuine_by usual installed m → a ≡ b
genuine_determined usual installed m a b p q = p ∙ sym q

-- the field for octets 1 to 40 that are to be sent
pub sign_determined : (key : Prepared) (direction : Direction) (octets a b : List ℕ)
    → a ≡ mac64_by key (covered direction octets) → b ≡ mac64_by key (covered direction octets) → a ≡ b
sign_determined key direction octets a b p q = p ∙ sym q

pub rights_determined : (key : Prepared) (messages places : List ℕ) (count : ℕ) (a b : List ℕ)
    → a ≡ rights_by key messages places count → b ≡ rights_by key messages places count → a ≡ b
rights_determined key messages places count a b p q = p ∙ sym q

-- an integrity field that is found right is the one that the key gives, in all eight octets
pub right_means_equal : (key : List ℕ) (direction : Direction) (m : List ℕ) → mic_right_lem key direction m ≡ true
    → mic_field m ≡ mic_of key direction m
unfolding mic_right_lem
right_means_equal key direction m e =
    same-equal (mic_field m) (mic_of key direction m)
    (right_true (leb message_octets (length m)) (same (mic_field m) (mic_of key direction m)) e)
