-- The integrity check by the true table and keys prepared with it is the one of clause 15.6.
-- Assumes nothing.
use mathlib.Core.Path.{◌≡◌, refl, ap}
use mathlib.Core.Bool.{Bool, true, false, cond, ◌&&◌}
use mathlib.Core.List.{List, [], ◌∷◌}
use Prim.Native.Nat.{ℕ, zero, suc, ◌<◌}
use native.Mathlib.Omega.{arith}
use lib.Dec.{leb}
use lib.ListN.{length, take, replicate}
use Rattle.aes.specs.Words.{words_of, Octets}
use Rattle.aes.proofs.Octets.{octets_nil, octets_cons}
use Rattle.cmac.specs.Tags.{prepared_by}
use Rattle.cmac.specs.declared.Prepared.{Prepared}
use Rattle.cmac.proofs.Macs.{mac64_prepared}
use Rattle.ploam.specs.Layout.{message_octets, covered_octets, address_of, type_of, mic_field}
use Rattle.integrity.specs.Integrity.{direction_code_lem, covered, same, mic_right_lem, default_key_lem, by_default_lem, genuine, mic_right_by, genuine_by}
use Rattle.integrity.specs.declared.Direction.{Direction}
use Rattle.integrity.specs.declared.Direction.TheVariants.{Downstream, Upstream}

pub octets-take : (n : ℕ) (l : List ℕ) → Octets l → Octets (take n l)
octets-take zero l o = octets_nil
octets-take (suc n) [] o = octets_nil
octets-take (suc n) (x ∷ l) o = octets_cons x (take n l) (o 0) (octets-take n l (λ i. o (suc i)))

code_octet : (direction : Direction) → direction_code_lem direction < 256
code_octet Downstream = omega arith
code_octet Upstream = omega arith

pub octets-covered : (direction : Direction) (m : List ℕ) → Octets m → Octets (covered direction m)
octets-covered direction m o =
    octets_cons (direction_code_lem direction) (take covered_octets m) (code_octet direction) (octets-take covered_octets m o)

-- for every key, direction and message
pub mic_right_prepared : (key : List ℕ) (direction : Direction) (m : List ℕ) → Octets key → length key ≡ 16 → Octets m
    → mic_right_by (prepared_by (words_of key)) direction m ≡ mic_right_lem key direction m
unfolding mic_right_by mic_right_lem
mic_right_prepared key direction m ok h om =
    ap (λ (mic : List ℕ). leb message_octets (length m) && same (mic_field m) mic)
    (mac64_prepared key (covered direction m) ok h (octets-covered direction m om))

octets-replicate : (n x : ℕ) → x < 256 → Octets (replicate n x)
octets-replicate zero x h = octets_nil
octets-replicate (suc n) x h = octets_cons x (replicate n x) h (octets-replicate n x h)

pub default_octets : Octets default_key_lem
default_octets = octets-replicate 16 0x55 (omega arith)

chosen : (b : Bool) (key m : List ℕ) → Octets key → length key ≡ 16 → Octets m
    → mic_right_by (cond b (prepared_by (words_of default_key_lem)) (prepared_by (words_of key))) Downstream m
    ≡ mic_right_lem (cond b default_key_lem key) Downstream m
chosen true key m ok h om = mic_right_prepared default_key_lem Downstream m default_octets refl om
chosen false key m ok h om = mic_right_prepared key Downstream m ok h om

pub genuine_prepared : (key m : List ℕ) → Octets key → length key ≡ 16 → Octets m
    → genuine_by (prepared_by (words_of default_key_lem)) (prepared_by (words_of key)) m ≡ genuine key m
unfolding genuine_by genuine
genuine_prepared key m ok h om = chosen (by_default_lem Downstream (address_of m) (type_of m)) key m ok h om

either : (b : Bool) (p : Prepared) → cond b p p ≡ p
either true p = refl
either false p = refl

-- whoever gives one key for both checks by that key, whichever the message asks for
pub one_key : (p : Prepared) (m : List ℕ) → genuine_by p p m ≡ mic_right_by p Downstream m
unfolding genuine_by
one_key p m =
    ap (λ (k : Prepared). mic_right_by k Downstream m) (either (by_default_lem Downstream (address_of m) (type_of m)) p)
