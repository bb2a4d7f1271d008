-- Octets are those of the state that they show where the few that can be no state's are known.
-- Assumes nothing.
use mathlib.Core.Path.{◌≡◌, refl, sym, ap, ap₂, subst, ◌∙◌}
use mathlib.Core.Bool.{Bool, true, false, ◌&&◌, not, cond, and_assoc, and-true}
use mathlib.Core.List.{List, [], ◌∷◌, ◌++◌}
use Prim.Native.Nat.{ℕ, zero, suc, ◌+◌, ◌-◌, ◌*◌, ◌^◌, ◌≤◌, ◌<◌}
use native.Mathlib.Omega.{arith}
use lib.Dec.{eqb, leb, ltb, lit<}
use lib.ListN.{length, get_or, take, drop, length-append, length-take, length-drop, take-append-drop, get_or-eq_default}
use lib.Seq.{take_all, take-take, take-add, drop-drop, get_or-take, get_or-drop, length-take-le}
use borrow.Author.Tests.{ltb-true, ltb-false, eqb-true, eqb-false, eq-eqb, ne_eqb, le-leb, lt-leb}
use Rattle.octets.specs.Octets.{value, octets}
use Rattle.octets.proofs.Numbers.{Bytes, octets-value, octets-length, value-octets, value_lt}
use Rattle.integrity.specs.Integrity.{same}
use Rattle.integrity.proofs.Same.{same_refl, same-equal}
use Rattle.station.specs.declared.Activation.{Activation}
use Rattle.station.specs.declared.Activation.TheVariants.{Initial, SerialNumber, Ranging, Operation, Intermittent, EmergencyStop}
use Rattle.station.specs.States.{state_number}
use Rattle.station.specs.Limits.{serial_octets_lem, registration_octets_lem}
use Rattle.link.specs.Limits.{added_allocs, most_owed}
use Rattle.link.specs.Limits as limits
use Rattle.ports.specs.Limits.{slots, added_ports}
use Rattle.layout.specs.Rows.{part, each, many}
use Rattle.layout.specs.Offsets.{id_width, mark_width, count_width, number_at, number_width, time_at, time_width, version_at, version_width, state_version, activation_at, activation_width, alloc_ids_at, alloc_ids_width, allocs_width, held_at, key_octets_at, key_width}
use Rattle.layout.specs.Offsets.{answer_width, answers_at, answers_width, queue_width, onu_at, allocs_at, delay_at, delay_width, key_at, queue_at, link_width, port_ids_at, port_ids_width, lengths_at, length_width, lengths_width, waiting_at, waiting_width, ports_width}
use Rattle.layout.specs.Offsets.{serial_at_lem, registration_at, link_at, ports_at, carried_at, words_width, state_bytes}
use Rattle.layout.specs.Layout.{time_left_lem, activation_by_lem, activation_of, activation_octets, alloc_of, alloc_octets, allocs_of, allocs_octets, mark_of_lem, mark_number, mark_octets, key_of, key_octets, response_number_lem, response_by_lem, owed_of, owed_octets, queue_of, queue_octets, link_of, link_octets, port_of, port_octets, length_octets, ports_of, ports_octets, encoded, shown}
use Rattle.layout.proofs.Refused.{part_length}
use Rattle.layout.specs.KnownOctets.{activation_known_lem, mark_known_lem, answer_known_lem, each_known, octets_known_lem}

-- ---- octets

abbrev pub Octets : List ℕ → Type 0
Octets b = (k : ℕ) → get_or b k 0 < 256

bytes : (b : List ℕ) → Octets b → Bytes b
bytes [] h = tt
bytes (x ∷ b) h = (h 0, bytes b (λ k. h (suc k)))

octets-part : (o w : ℕ) (b : List ℕ) → Octets b → Octets (part o w b)
octets-part o w b h k = go (ltb k w) refl
  where
    go : (t : Bool) → ltb k w ≡ t → get_or (part o w b) k 0 < 256
    go true e = rw (get_or-take w (drop o b) k 0 (ltb-true k w e), get_or-drop o b k 0) (h (o + k))
    go false e =
        let n : length (part o w b) ≤ k = simp length-take (omega (arith, ltb-false k w e)) in
        rw (get_or-eq_default (part o w b) 0 n) (lit< tt)

octets-drop : (o : ℕ) (b : List ℕ) → Octets b → Octets (drop o b)
octets-drop o b h k = rw (get_or-drop o b k 0) (h (o + k))

number_self : (n : ℕ) (x : List ℕ) → length x ≡ n → Octets x → octets n (value x) ≡ x
number_self n x e h = ap (λ (m : ℕ). octets m (value x)) (sym e) ∙ octets-value x (bytes x h)

part-take : (o w v : ℕ) (l : List ℕ) → o + w ≤ v → take w (drop o (take v l)) ≡ take w (drop o l)
part-take zero w v l h = take-take w v l (omega arith)
part-take (suc o) w zero l h = absurd (omega arith)
part-take (suc o) w (suc v) [] h = refl
part-take (suc o) w (suc v) (x ∷ l) h = part-take o w v l (omega arith)

part-part : (o w p v : ℕ) (b : List ℕ) → o + w ≤ v → part o w (part p v b) ≡ part (p + o) w b
part-part o w p v b h = part-take o w v (drop p b) h ∙ ap (take w) (drop-drop o p b)

part-first : (o w : ℕ) (b : List ℕ) → 0 < w → get_or (part o w b) 0 0 ≡ get_or b (o + 0) 0
part-first o w b h = get_or-take w (drop o b) 0 0 h ∙ get_or-drop o b 0 0

-- ---- as long, and the same where a test says so

abbrev Like : List ℕ → List ℕ → Bool → Type 0
Like a x p = (length a ≡ length x) × (same a x ≡ p)

like : (a x : List ℕ) → a ≡ x → Like a x true
like a x e = (ap length e, ap (λ (l : List ℕ). same l x) e ∙ same_refl x)

same-append : (a x c y : List ℕ) → length a ≡ length x → same (a ++ c) (x ++ y) ≡ (same a x && same c y)
unfolding same
same-append [] [] c y e = refl
same-append [] (z ∷ x) c y e = absurd (omega arith)
same-append (z ∷ a) [] c y e = absurd (omega arith)
same-append (z ∷ a) (w ∷ x) c y e =
    ap (λ (t : Bool). eqb z w && t) (same-append a x c y (omega arith)) ∙ sym (and_assoc (eqb z w) (same a x) (same c y))

joint : (a x c y : List ℕ) (p q : Bool) → Like a x p → Like c y q → Like (a ++ c) (x ++ y) (p && q)
joint a x c y p q (l, s) (m, t) =
    (length-append a c ∙ ap₂ ◌+◌ l m ∙ sym (length-append x y), same-append a x c y l ∙ ap₂ ◌&&◌ s t)

at : (a x z : List ℕ) (p q : Bool) → Like a x p → x ≡ z → p ≡ q → Like a z q
at a x z p q (l, s) e f = (l ∙ ap length e, ap (same a) (sym e) ∙ s ∙ f)

grow : (n m : ℕ) (x c : List ℕ) → x ≡ take n c → x ++ part n m c ≡ take (n + m) c
grow n m x c e = ap (λ (l : List ℕ). l ++ part n m c) e ∙ sym (take-add n m c)

number-like : (n : ℕ) (x : List ℕ) → length x ≡ n → Octets x → Like (octets n (value x)) x true
number-like n x e h = like (octets n (value x)) x (number_self n x e h)

-- ---- one after another

module _ {A : Type 0} (of : List ℕ → A) (octets_of : A → List ℕ) (w : ℕ) (f : ℕ → Bool) (some : 0 < w)
    (one : (x : List ℕ) → length x ≡ w → Octets x → Like (octets_of (of x)) x (f (get_or x 0 0))) where
  each_like : (n : ℕ) (c : List ℕ) → length c ≡ w * n → Octets c → Like (each octets_of (many of w n c)) c (each_known f w n c)
  unfolding same
  each_like zero [] e h = (refl, refl)
  each_like zero (x ∷ c) e h = absurd (omega arith)
  each_like (suc n) c e h =
      let g : w * suc n ≡ w * n + w = omega arith in
      let m : length (drop w c) ≡ w * n = simp length-drop (omega arith) in
      at (octets_of (of (take w c)) ++ each octets_of (many of w n (drop w c))) (take w c ++ drop w c) c (f (get_or (take w c) 0 0) && each_known f w n (drop w c)) (f (get_or c 0 0) && each_known f w n (drop w c))
      (joint (octets_of (of (take w c))) (take w c) (each octets_of (many of w n (drop w c))) (drop w c) (f (get_or (take w c) 0 0)) (each_known f w n (drop w c)) (one (take w c) (length-take-le w c (omega arith)) (octets-part 0 w c h)) (each_like n (drop w c) m (octets-drop w c h)))
      (take-append-drop w c)
      (ap (λ (k : ℕ). f k && each_known f w n (drop w c)) (get_or-take w c 0 0 some))

abbrev any : ℕ → Bool
any n = true

any-known : (w n : ℕ) (c : List ℕ) → each_known any w n c ≡ true
any-known w zero c = refl
any-known w (suc n) c = any-known w n (drop w c)

-- ---- the fields

value-one : (n : ℕ) → value (n ∷ []) ≡ n
value-one n = omega arith

eqb_sym : (a b : ℕ) → eqb a b ≡ eqb b a
eqb_sym a b = go (eqb a b) refl
  where
    go : (t : Bool) → eqb a b ≡ t → t ≡ eqb b a
    go true e = sym (eq-eqb b a (sym (eqb-true a b e)))
    go false e = sym (ne_eqb b a (λ q. eqb-false a b e (sym q)))

mark-number : (n : ℕ) → eqb (mark_number (eqb n 1)) n ≡ mark_known_lem n
mark-number n = go (eqb n 1) (eqb 0 n) refl refl
  where
    go : (s t : Bool) → eqb n 1 ≡ s → eqb 0 n ≡ t → eqb (mark_number s) n ≡ leb n 1
    go true t e f = let q = eqb-true n 1 e in eq-eqb 1 n (omega arith) ∙ sym (le-leb n 1 (omega arith))
    go false true e f = let q = eqb-true 0 n f in f ∙ sym (le-leb n 1 (omega arith))
    go false false e f = f ∙ sym (lt-leb n 1 (omega (arith, eqb-false n 1 e, eqb-false 0 n f)))

mark-like : (x : List ℕ) → length x ≡ mark_width → Octets x → Like (mark_octets (mark_of_lem x)) x (mark_known_lem (get_or x 0 0))
unfolding same
mark-like [] e h = absurd (omega arith)
mark-like (n ∷ []) e h =
    (refl, and-true (eqb (mark_number (eqb (value (n ∷ [])) 1)) n) ∙ ap (λ (k : ℕ). eqb (mark_number (eqb k 1)) n) (value-one n) ∙ mark-number n)
mark-like (n ∷ (m ∷ x)) e h = absurd (omega arith)

above_three : (n : ℕ) → (n ≡ 0 → ⊥) → (n ≡ 1 → ⊥) → (n ≡ 2 → ⊥) → (n ≡ 3 → ⊥) → 3 < n
above_three n h0 h1 h2 h3 = omega arith

above_six : (n : ℕ) → 3 < n → (n ≡ 4 → ⊥) → (n ≡ 5 → ⊥) → (n ≡ 6 → ⊥) → 6 < n
above_six n h h4 h5 h6 = omega arith

-- a number is k, or it is not
either : (P : ℕ → Type 0) (n k : ℕ) → P k → ((n ≡ k → ⊥) → P n) → P n
either P n k p q = go (eqb n k) refl
  where
    go : (t : Bool) → eqb n k ≡ t → P n
    go true e = subst P (sym (eqb-true n k e)) p
    go false e = q (eqb-false n k e)

answer-number : (n : ℕ) → eqb (response_number_lem (response_by_lem n)) n ≡ answer_known_lem n
answer-number n =
    either P n 0 refl (λ h0. either P n 1 refl (λ h1. either P n 2 refl (λ h2. either P n 3 refl (λ h3.
    either P n 4 refl (λ h4. either P n 5 refl (λ h5. either P n 6 refl (λ h6.
    rw (ne_eqb n 1 h1, ne_eqb n 2 h2, ne_eqb n 4 h4, ne_eqb n 5 h5, ne_eqb n 6 h6, ne_eqb 0 n (λ e. h0 (sym e)), lt-leb n 6 (above_six n (above_three n h0 h1 h2 h3) h4 h5 h6)))))))))
  where
    P : ℕ → Type 0
    P k = eqb (response_number_lem (response_by_lem k)) k ≡ (leb k 6 && not (eqb k 3))

answer_like : (x : List ℕ) → length x ≡ answer_width → Octets x → Like (owed_octets (owed_of x)) x (answer_known_lem (get_or x 0 0))
unfolding same
answer_like [] e h = absurd (omega arith)
answer_like (n ∷ []) e h = absurd (omega arith)
answer_like (n ∷ (m ∷ [])) e h = (
  refl,
  ap₂ (λ (j k : ℕ). eqb (response_number_lem (response_by_lem j)) n && (eqb k m && true)) (value-one n) (value-one m)
      ∙ ap (λ (t : Bool). eqb (response_number_lem (response_by_lem n)) n && (t && true)) (eq-eqb m m refl)
      ∙ and-true (eqb (response_number_lem (response_by_lem n)) n) ∙ answer-number n,
)
answer_like (n ∷ (m ∷ (k ∷ x))) e h = absurd (omega arith)

-- the time that is read is that of the state or none
left_lt : (n l : ℕ) → l < 256 ^ time_width → time_left_lem (activation_by_lem n l) < 256 ^ time_width
left_lt n l h = go (eqb n 2) (eqb n 4) (eqb n 5) (eqb n 6) (eqb n 7)
  where
    go : (a b c d e : Bool) → time_left_lem (cond a SerialNumber (cond b (Ranging l) (cond c Operation (cond d (Intermittent l) (cond e EmergencyStop Initial))))) < 256 ^ time_width
    go true b c d e = lit< tt
    go false true c d e = h
    go false false true d e = lit< tt
    go false false false true e = h
    go false false false false true = lit< tt
    go false false false false false = lit< tt

state_lt : (a : Activation) → state_number a < 256 ^ number_width
state_lt Initial = lit< tt
state_lt SerialNumber = lit< tt
state_lt (Ranging left) = lit< tt
state_lt Operation = lit< tt
state_lt (Intermittent left) = lit< tt
state_lt EmergencyStop = lit< tt

ap_lt : {v n m : ℕ} → v < 256 ^ n → n ≡ m → v < 256 ^ m
ap_lt {v} h e = subst (λ (k : ℕ). v < 256 ^ k) e h

-- the octets of a number are those of another where the numbers are equal
value-like : (n v : ℕ) (x : List ℕ) → v < 256 ^ n → length x ≡ n → Octets x → Like (octets n v) x (eqb v (value x))
value-like n v x h e o = go (eqb v (value x)) refl
  where
    go : (t : Bool) → eqb v (value x) ≡ t → Like (octets n v) x t
    go true q = like (octets n v) x (ap (octets n) (eqb-true v (value x) q) ∙ number_self n x e o)
    go false q =
        (octets-length n v ∙ sym e, differ (same (octets n v) x) refl (λ r. eqb-false v (value x) q (sym (value-octets n v h) ∙ ap value (same-equal (octets n v) x r))))
      where
        differ : (t : Bool) → same (octets n v) x ≡ t → (same (octets n v) x ≡ true → ⊥) → same (octets n v) x ≡ false
        differ true r k = absurd (k r)
        differ false r k = r

activation_like : (c : List ℕ) → length c ≡ activation_width → Octets c → Like (activation_octets (activation_of c)) c (activation_known_lem c)
unfolding activation_of activation_known_lem
activation_like c e h =
    let a : Activation = activation_by_lem (value (part number_at number_width c)) (value (part time_at time_width c)) in
    let w : length (part time_at time_width c) ≡ time_width = part_length time_at time_width c (omega arith) in
    let o : Octets (part time_at time_width c) = octets-part time_at time_width c h in
    let v : value (part time_at time_width c) < 256 ^ time_width = ap_lt (value_lt (part time_at time_width c) (bytes (part time_at time_width c) o)) w in
    at (octets number_width (state_number a) ++ octets time_width (time_left_lem a)) (take number_width c ++ part time_at time_width c) c _ _
    (joint (octets number_width (state_number a)) (take number_width c) (octets time_width (time_left_lem a)) (part time_at time_width c) _ _ (value-like number_width (state_number a) (take number_width c) (state_lt a) (part_length number_at number_width c (omega arith)) (octets-part number_at number_width c h)) (value-like time_width (time_left_lem a) (part time_at time_width c) (left_lt (value (part number_at number_width c)) (value (part time_at time_width c)) v) w o))
    (grow number_width time_width (take number_width c) c refl ∙ take_all activation_width c (omega arith))
    refl

alloc_like : (x : List ℕ) → length x ≡ id_width → Octets x → Like (alloc_octets (alloc_of x)) x true
alloc_like x e h = number-like id_width x e h

port_like : (x : List ℕ) → length x ≡ id_width → Octets x → Like (port_octets (port_of x)) x true
port_like x e h = number-like id_width x e h

length-like : (x : List ℕ) → length x ≡ length_width → Octets x → Like (length_octets (value x)) x true
length-like x e h = number-like length_width x e h

-- a field that has all its numbers
numbers-like
    : {A : Type 0} (of : List ℕ → A) (octets_of : A → List ℕ) (w n : ℕ) → 0 < w
    → ((x : List ℕ) → length x ≡ w → Octets x → Like (octets_of (of x)) x true) → (c : List ℕ) → length c ≡ w * n → Octets c
    → Like (each octets_of (many of w n c)) c true
numbers-like of octets_of w n p one c e h =
    let (l, s) = each_like of octets_of w any p one n c e h in (l, s ∙ any-known w n c)

allocs_like : (c : List ℕ) → length c ≡ allocs_width → Octets c → Like (allocs_octets (allocs_of c)) c true
unfolding allocs_of
allocs_like c e h =
    at (octets count_width (value (take count_width c)) ++ each alloc_octets (many alloc_of id_width added_allocs (part alloc_ids_at alloc_ids_width c))) (take count_width c ++ part alloc_ids_at alloc_ids_width c) c true true
    (joint (octets count_width (value (take count_width c))) (take count_width c) (each alloc_octets (many alloc_of id_width added_allocs (part alloc_ids_at alloc_ids_width c))) (part alloc_ids_at alloc_ids_width c) true true (number-like count_width (take count_width c) (part_length 0 count_width c (omega arith)) (octets-part 0 count_width c h)) (numbers-like alloc_of alloc_octets id_width added_allocs (lit< tt) alloc_like (part alloc_ids_at alloc_ids_width c) (part_length alloc_ids_at alloc_ids_width c (omega arith)) (octets-part alloc_ids_at alloc_ids_width c h)))
    (grow alloc_ids_at alloc_ids_width (take count_width c) c refl ∙ take_all allocs_width c (omega arith))
    refl

mark-octet : (t : Bool) → octets mark_width (mark_number t) ≡ mark_octets t
mark-octet true = refl
mark-octet false = refl

key_like : (c : List ℕ) → length c ≡ key_width → Octets c → Like (key_octets (key_of c)) c (mark_known_lem (get_or c held_at 0))
unfolding key_of
key_like c e h =
    let k : Bool = mark_of_lem (take mark_width c) in
    let (l, s) = mark-like (take mark_width c) (part_length held_at mark_width c (omega arith)) (octets-part held_at mark_width c h) in
    at (octets mark_width (mark_number k) ++ part key_octets_at limits.key_octets c) (take mark_width c ++ part key_octets_at limits.key_octets c) c (mark_known_lem (get_or (take mark_width c) 0 0) && true) (mark_known_lem (get_or c held_at 0))
    (joint (octets mark_width (mark_number k)) (take mark_width c) (part key_octets_at limits.key_octets c) (part key_octets_at limits.key_octets c) (mark_known_lem (get_or (take mark_width c) 0 0)) true (ap length (mark-octet k) ∙ l, ap (λ (x : List ℕ). same x (take mark_width c)) (mark-octet k) ∙ s) (like (part key_octets_at limits.key_octets c) (part key_octets_at limits.key_octets c) refl))
    (grow key_octets_at limits.key_octets (take mark_width c) c refl ∙ take_all key_width c (omega arith))
    (and-true (mark_known_lem (get_or (take mark_width c) 0 0)) ∙ ap mark_known_lem (get_or-take mark_width c 0 0 (lit< tt)))

queue-like : (c : List ℕ) → length c ≡ queue_width → Octets c → Like (queue_octets (queue_of c)) c (each_known answer_known_lem answer_width most_owed (part answers_at answers_width c))
unfolding queue_of
queue-like c e h =
    at (octets count_width (value (take count_width c)) ++ each owed_octets (many owed_of answer_width most_owed (part answers_at answers_width c))) (take count_width c ++ part answers_at answers_width c) c (each_known answer_known_lem answer_width most_owed (part answers_at answers_width c)) (each_known answer_known_lem answer_width most_owed (part answers_at answers_width c))
    (joint (octets count_width (value (take count_width c))) (take count_width c) (each owed_octets (many owed_of answer_width most_owed (part answers_at answers_width c))) (part answers_at answers_width c) true (each_known answer_known_lem answer_width most_owed (part answers_at answers_width c)) (number-like count_width (take count_width c) (part_length 0 count_width c (omega arith)) (octets-part 0 count_width c h)) (each_like owed_of owed_octets answer_width answer_known_lem (lit< tt) answer_like most_owed (part answers_at answers_width c) (part_length answers_at answers_width c (omega arith)) (octets-part answers_at answers_width c h)))
    (grow answers_at answers_width (take count_width c) c refl ∙ take_all queue_width c (omega arith))
    refl

link_like : (c : List ℕ) → length c ≡ link_width → Octets c
    → Like (link_octets (link_of c)) c (mark_known_lem (get_or (part key_at key_width c) 0 0) && each_known answer_known_lem answer_width most_owed (part answers_at answers_width (part queue_at queue_width c)))
unfolding link_of
link_like c e h =
    at (link_octets (link_of c)) ((((take id_width c ++ part allocs_at allocs_width c) ++ part delay_at delay_width c) ++ part key_at key_width c) ++ part queue_at queue_width c) c _ _
    (joint _ (((take id_width c ++ part allocs_at allocs_width c) ++ part delay_at delay_width c) ++ part key_at key_width c) _ (part queue_at queue_width c) _ _
    (joint _ ((take id_width c ++ part allocs_at allocs_width c) ++ part delay_at delay_width c) _ (part key_at key_width c) true _
    (joint _ (take id_width c ++ part allocs_at allocs_width c) _ (part delay_at delay_width c) true true
    (joint _ (take id_width c) _ (part allocs_at allocs_width c) true true (number-like id_width (take id_width c) (part_length onu_at id_width c (omega arith)) (octets-part onu_at id_width c h)) (allocs_like (part allocs_at allocs_width c) (part_length allocs_at allocs_width c (omega arith)) (octets-part allocs_at allocs_width c h)))
    (number-like delay_width (part delay_at delay_width c) (part_length delay_at delay_width c (omega arith)) (octets-part delay_at delay_width c h)))
    (key_like (part key_at key_width c) (part_length key_at key_width c (omega arith)) (octets-part key_at key_width c h)))
    (queue-like (part queue_at queue_width c) (part_length queue_at queue_width c (omega arith)) (octets-part queue_at queue_width c h)))
    (grow queue_at queue_width _ c (grow key_at key_width _ c (grow delay_at delay_width _ c (grow allocs_at allocs_width _ c refl))) ∙ take_all link_width c (omega arith))
    refl

ports_like : (c : List ℕ) → length c ≡ ports_width → Octets c → Like (ports_octets (ports_of c)) c (each_known mark_known_lem mark_width slots (part waiting_at waiting_width c))
unfolding ports_of
ports_like c e h =
    at (ports_octets (ports_of c)) ((take port_ids_width c ++ part lengths_at lengths_width c) ++ part waiting_at waiting_width c) c _ _
    (joint _ (take port_ids_width c ++ part lengths_at lengths_width c) _ (part waiting_at waiting_width c) true _
    (joint _ (take port_ids_width c) _ (part lengths_at lengths_width c) true true (numbers-like port_of port_octets id_width added_ports (lit< tt) port_like (take port_ids_width c) (part_length port_ids_at port_ids_width c (omega arith)) (octets-part port_ids_at port_ids_width c h)) (numbers-like value length_octets length_width slots (lit< tt) length-like (part lengths_at lengths_width c) (part_length lengths_at lengths_width c (omega arith)) (octets-part lengths_at lengths_width c h)))
    (each_like mark_of_lem mark_octets mark_width mark_known_lem (lit< tt) mark-like slots (part waiting_at waiting_width c) (part_length waiting_at waiting_width c (omega arith)) (octets-part waiting_at waiting_width c h)))
    (grow waiting_at waiting_width _ c (grow lengths_at lengths_width _ c refl) ∙ take_all ports_width c (omega arith))
    refl

version_like : (x : List ℕ) → length x ≡ version_width → Like (octets version_width state_version) x (eqb (get_or x version_at 0) state_version)
unfolding same
version_like [] e = absurd (omega arith)
version_like (n ∷ []) e = (refl, and-true (eqb state_version n) ∙ eqb_sym state_version n)
version_like (n ∷ (m ∷ x)) e = absurd (omega arith)

-- ---- the state

in_order : (v a m w p : Bool) → ((((((v && a) && true) && true) && (m && w)) && p) && true) ≡ (v && (a && (m && (w && p))))
in_order true true true w p = and-true (w && p)
in_order true true false w p = refl
in_order true false m w p = refl
in_order false a m w p = refl

pub octets-known : (b : List ℕ) → state_bytes ≤ length b → Octets b → same (encoded (shown b)) (take state_bytes b) ≡ octets_known_lem b
unfolding encoded shown
octets-known b r h =
    let l : List ℕ = part link_at link_width b in
    let p : List ℕ = part ports_at ports_width b in
    let i : List ℕ = ((take version_width b ++ part activation_at activation_width b) ++ part serial_at_lem serial_octets_lem b) ++ part registration_at registration_octets_lem b in
    let v : get_or (take version_width b) version_at 0 ≡ get_or b version_at 0 = get_or-take version_width b 0 0 (lit< tt) in
    let k : get_or (part key_at key_width l) 0 0 ≡ get_or b (link_at + key_at + held_at) 0 = ap (λ (x : List ℕ). get_or x 0 0) (part-part key_at key_width link_at link_width b (omega arith)) ∙ part-first (link_at + key_at) key_width b (lit< tt) in
    let w : part answers_at answers_width (part queue_at queue_width l) ≡ part (link_at + queue_at + answers_at) answers_width b = part-part answers_at answers_width queue_at queue_width l (omega arith) ∙ part-part (queue_at + answers_at) answers_width link_at link_width b (omega arith) in
    let m : part waiting_at waiting_width p ≡ part (ports_at + waiting_at) waiting_width b = part-part waiting_at waiting_width ports_at ports_width b (omega arith) in
    let q =
    joint _ ((i ++ l) ++ p) _ (part carried_at words_width b) _ true
    (joint _ (i ++ l) _ p _ _
    (joint _ i _ l _ _
    (joint _ ((take version_width b ++ part activation_at activation_width b) ++ part serial_at_lem serial_octets_lem b) _ (part registration_at registration_octets_lem b) _ true
    (joint _ (take version_width b ++ part activation_at activation_width b) _ (part serial_at_lem serial_octets_lem b) _ true
    (joint _ (take version_width b) _ (part activation_at activation_width b) _ _ (version_like (take version_width b) (part_length version_at version_width b (omega arith))) (activation_like (part activation_at activation_width b) (part_length activation_at activation_width b (omega arith)) (octets-part activation_at activation_width b h)))
    (like (part serial_at_lem serial_octets_lem b) (part serial_at_lem serial_octets_lem b) refl))
    (like (part registration_at registration_octets_lem b) (part registration_at registration_octets_lem b) refl))
    (link_like l (part_length link_at link_width b (omega arith)) (octets-part link_at link_width b h)))
    (ports_like p (part_length ports_at ports_width b (omega arith)) (octets-part ports_at ports_width b h)))
    (number-like words_width (part carried_at words_width b) (part_length carried_at words_width b (omega arith)) (octets-part carried_at words_width b h))
    in
    let cut = grow carried_at words_width _ b (grow ports_at ports_width _ b (grow link_at link_width _ b (grow registration_at registration_octets_lem _ b (grow serial_at_lem serial_octets_lem _ b (grow activation_at activation_width _ b refl))))) in
    ap (same (encoded (shown b))) (sym cut) ∙ q.1
    ∙ in_order (eqb (get_or (take version_width b) version_at 0) state_version) (activation_known_lem (part activation_at activation_width b)) (mark_known_lem (get_or (part key_at key_width l) 0 0)) (each_known answer_known_lem answer_width most_owed (part answers_at answers_width (part queue_at queue_width l))) (each_known mark_known_lem mark_width slots (part waiting_at waiting_width p))
    ∙ ap₂ (λ (n x : ℕ). eqb n state_version && (activation_known_lem (part activation_at activation_width b) && (mark_known_lem x && (each_known answer_known_lem answer_width most_owed (part answers_at answers_width (part queue_at queue_width l)) && each_known mark_known_lem mark_width slots (part waiting_at waiting_width p))))) v k
    ∙ ap₂ (λ (x y : List ℕ). eqb (get_or b version_at 0) state_version && (activation_known_lem (part activation_at activation_width b) && (mark_known_lem (get_or b (link_at + key_at + held_at) 0) && (each_known answer_known_lem answer_width most_owed x && each_known mark_known_lem mark_width slots y)))) w m

-- ---- tests of octets, one turn at a time

module _ (f : ℕ → Bool) (w n i : ℕ) (c : List ℕ) (all : Bool) where
  pub known-turn
      : (k : ℕ) → k ≡ w * i → i < n
      → ((all && f (get_or c k 0)) && each_known f w (n - (i + 1)) (drop (w * (i + 1)) c)) ≡ (all && each_known f w (n - i) (drop (w * i) c))
  known-turn k e h =
      let m : n - i ≡ suc (n - (i + 1)) = omega arith in
      let g : w * (i + 1) ≡ w * i + w = omega arith in
      let z : k ≡ w * i + 0 = omega arith in
      let d : drop (w * (i + 1)) c ≡ drop w (drop (w * i) c) = ap (λ (j : ℕ). drop j c) g ∙ sym (drop-drop w (w * i) c) in
      let o : get_or c k 0 ≡ get_or (drop (w * i) c) 0 0 = ap (λ (j : ℕ). get_or c j 0) z ∙ sym (get_or-drop (w * i) c 0 0) in
      rw (m, d, o) (and_assoc all (f (get_or (drop (w * i) c) 0 0)) (each_known f w (n - (i + 1)) (drop w (drop (w * i) c))))

  pub known_end : n ≤ i → all ≡ (all && each_known f w (n - i) (drop (w * i) c))
  known_end h = let m : n - i ≡ 0 = omega arith in rw m (sym (and-true all))

pub activation_tests
    : (b : List ℕ) (n l m t : ℕ) (a : Activation) → n ≡ value (part number_at number_width b) → l ≡ value (part time_at time_width b) → a ≡ activation_by_lem n l
    → m ≡ state_number a → t ≡ time_left_lem a → (eqb m n && eqb t l) ≡ activation_known_lem b
unfolding activation_known_lem activation_of
activation_tests b n l m t a hn hl ha hm ht =
    let e : a ≡ activation_of b = ha ∙ ap₂ activation_by_lem hn hl in
    ap₂ (λ (x y : ℕ). eqb x y && eqb t l) (hm ∙ ap state_number e) hn
    ∙ ap₂ (λ (x y : ℕ). eqb (state_number (activation_of b)) (value (part number_at number_width b)) && eqb x y) (ht ∙ ap time_left_lem e) hl
