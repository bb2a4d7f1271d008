-- Each field that is written is read back.
-- Assumes nothing.
use mathlib.Core.Path.{◌≡◌, refl, sym, ap, ap₂, ◌∙◌}
use mathlib.Core.Bool.{Bool, true, false}
use mathlib.Core.List.{List, [], ◌∷◌, ◌++◌}
use Prim.Native.Nat.{ℕ, zero, suc, ◌+◌, ◌*◌, ◌^◌, ◌≤◌, ◌<◌}
use native.Mathlib.Omega.{arith}
use lib.ListN.{length, take, drop, length-append, length-drop}
use lib.Seq.{take_all, take_at, drop_at, take-append-le, drop-append-le}
use Rattle.ids.specs.declared.AllocId.{AllocId}
use Rattle.ids.specs.declared.PortId.{PortId}
use Rattle.octets.specs.Octets.{value, octets}
use Rattle.octets.proofs.Numbers.{value-octets, octets-length}
use Rattle.station.specs.declared.Activation.{Activation}
use Rattle.station.specs.declared.Activation.TheVariants.{Initial, SerialNumber, Ranging, Operation, Intermittent, EmergencyStop}
use Rattle.link.specs.declared.Response.{Response}
use Rattle.link.specs.declared.Response.TheVariants.{Registration, Acknowledgement}
use Rattle.ploam.specs.declared.Completion.TheVariants.{Ok, NoMessage, UnknownMessageType, ParameterError, ProcessingError}
use Rattle.link.specs.declared.Owed.{Owed}
use Rattle.link.specs.declared.Key.{Key}
use Rattle.link.specs.declared.Allocs.{Allocs}
use Rattle.link.specs.declared.Queue.{Queue}
use Rattle.link.specs.declared.Link.{Link}
use Rattle.ports.specs.declared.Ports.{Ports}
use Rattle.link.specs.Limits.{added_allocs, most_owed}
use Rattle.link.specs.Limits as limits
use Rattle.ports.specs.Limits.{slots, added_ports}
use Rattle.layout.specs.Rows.{part, each, many}
use Rattle.layout.specs.Offsets.{id_width, mark_width, count_width, time_width, alloc_ids_width, allocs_width, key_width, answer_width, answers_width, queue_width, onu_at, allocs_at, delay_at, delay_width, key_at, queue_at, link_width}
use Rattle.layout.specs.Offsets.{port_ids_at, port_ids_width, lengths_at, length_width, lengths_width, waiting_at, waiting_width, ports_width}
use Rattle.layout.specs.Layout.{time_left_lem, activation_octets, activation_by_lem, activation_of, alloc_octets, alloc_of, port_octets, port_of, length_octets, mark_number, mark_octets, mark_of_lem, response_number_lem, response_by_lem, owed_octets, owed_of, allocs_octets, allocs_of, key_octets, key_of, queue_octets, queue_of, link_octets, link_of, ports_octets, ports_of}
use Rattle.layout.specs.Typed.{Every}
use Rattle.layout.proofs.Laws.{each-length, joined}

-- ---- parts of octets one behind the other

pub front : (a r : List ℕ) (o w : ℕ) → o + w ≤ length a → part o w (a ++ r) ≡ part o w a
front a r o w h =
    ap (take w) (drop-append-le o a r (omega arith))
    ∙ take-append-le w (drop o a) r (omega (arith, length-drop o a))

pub back : (a r : List ℕ) (k w : ℕ) → length a ≡ k → length r ≡ w → part k w (a ++ r) ≡ r
back a r k w e f = ap (take w) (drop_at a r k e) ∙ take_all w r (omega arith)

pub whole : (a : List ℕ) (w : ℕ) → length a ≡ w → part 0 w a ≡ a
whole a w e = take_all w a (omega arith)

-- ---- one after another

module _ {A : Type 0} (of : List ℕ → A) (octets_of : A → List ℕ) (w : ℕ) (ok : A → Type 0)
    (back-again : (a : A) → ok a → of (octets_of a) ≡ a) (width : (a : A) → length (octets_of a) ≡ w) where
  pub many-each : (l : List A) → Every ok l → many of w (length l) (each octets_of l) ≡ l
  many-each [] h = refl
  many-each (a ∷ l) (h, k) =
      ap₂ ◌∷◌ (ap of (take_at (octets_of a) (each octets_of l) w (width a)) ∙ back-again a h)
      (ap (many of w (length l)) (drop_at (octets_of a) (each octets_of l) w (width a)) ∙ many-each l k)

  pub many-part : (n m : ℕ) (l : List A) → Every ok l → length l ≡ n → w * n ≡ m → many of w n (take m (each octets_of l)) ≡ l
  many-part n m l h e f =
      let q : length (each octets_of l) ≡ w * length l = each-length octets_of w width l in
      let r : length (each octets_of l) ≡ m = q ∙ ap (λ (k : ℕ). w * k) e ∙ f in
      ap (many of w n) (take_all m (each octets_of l) (omega arith))
      ∙ ap (λ (k : ℕ). many of w k (each octets_of l)) (sym e) ∙ many-each l h

-- ---- the fields

pub activation_back : (a : Activation) → time_left_lem a < 256 ^ time_width → activation_of (activation_octets a) ≡ a
unfolding activation_of
activation_back Initial h = refl
activation_back SerialNumber h = refl
activation_back (Ranging left) h = ap Ranging (value-octets time_width left h)
activation_back Operation h = refl
activation_back (Intermittent left) h = ap Intermittent (value-octets time_width left h)
activation_back EmergencyStop h = refl

alloc_back : (id : AllocId) → id.0 < 256 ^ id_width → alloc_of (alloc_octets id) ≡ id
alloc_back id h = ap (λ (n : ℕ). record { 0 = n }) (value-octets id_width id.0 h)

port_back : (id : PortId) → id.0 < 256 ^ id_width → port_of (port_octets id) ≡ id
port_back id h = ap (λ (n : ℕ). record { 0 = n }) (value-octets id_width id.0 h)

mark_back : (m : Bool) → mark_of_lem (mark_octets m) ≡ m
mark_back true = refl
mark_back false = refl

response_back : (r : Response) (n : ℕ) → n ≡ response_number_lem r → response_by_lem n ≡ r
response_back Registration n e = rw e
response_back (Acknowledgement Ok) n e = rw e
response_back (Acknowledgement NoMessage) n e = rw e
response_back (Acknowledgement UnknownMessageType) n e = rw e
response_back (Acknowledgement ParameterError) n e = rw e
response_back (Acknowledgement ProcessingError) n e = rw e

owed_back : (o : Owed) → owed_of (owed_octets o) ≡ o
owed_back o =
    let r : response_by_lem (value (response_number_lem o.response ∷ [])) ≡ o.response = response_back o.response (value (response_number_lem o.response ∷ [])) (omega arith) in
    let q : value (o.seq_no ∷ []) ≡ o.seq_no = omega arith in
    λ j. record { response = r j; seq_no = q j }

every_unit : {A : Type 0} (l : List A) → Every (λ (a : A). Unit {0}) l
every_unit [] = tt
every_unit (a ∷ l) = (tt, every_unit l)

pub allocs_length : (a : Allocs) → length a.ids ≡ added_allocs → length (allocs_octets a) ≡ allocs_width
allocs_length a e = joined (octets count_width a.count) (each alloc_octets a.ids) count_width alloc_ids_width refl (each-length alloc_octets id_width (λ x. refl) a.ids ∙ ap (λ (n : ℕ). id_width * n) e)

pub allocs_back : (a : Allocs) → length a.ids ≡ added_allocs → Every (λ (id : AllocId). id.0 < 256 ^ id_width) a.ids → a.count < 256 ^ count_width → allocs_of (allocs_octets a) ≡ a
unfolding allocs_of
allocs_back a e h n =
    let i : many alloc_of id_width added_allocs (take alloc_ids_width (each alloc_octets a.ids)) ≡ a.ids = many-part alloc_of alloc_octets id_width (λ (id : AllocId). id.0 < 256 ^ id_width) alloc_back (λ x. refl) added_allocs alloc_ids_width a.ids h e refl in
    let k : value (octets count_width a.count) ≡ a.count = value-octets count_width a.count n in
    λ j. record { ids = i j; count = k j }

pub queue-length : (q : Queue) → length q.answers ≡ most_owed → length (queue_octets q) ≡ queue_width
queue-length q e = joined (octets count_width q.count) (each owed_octets q.answers) count_width answers_width refl (each-length owed_octets answer_width (λ x. refl) q.answers ∙ ap (λ (n : ℕ). answer_width * n) e)

pub queue_back : (q : Queue) → length q.answers ≡ most_owed → q.count < 256 ^ count_width → queue_of (queue_octets q) ≡ q
unfolding queue_of
queue_back q e n =
    let i : many owed_of answer_width most_owed (take answers_width (each owed_octets q.answers)) ≡ q.answers = many-part owed_of owed_octets answer_width (λ (o : Owed). Unit {0}) (λ o h. owed_back o) (λ x. refl) most_owed answers_width q.answers (every_unit q.answers) e refl in
    let k : value (octets count_width q.count) ≡ q.count = value-octets count_width q.count n in
    λ j. record { answers = i j; count = k j }

pub key_length : (k : Key) → length k.octets ≡ limits.key_octets → length (key_octets k) ≡ key_width
key_length k e = joined (octets mark_width (mark_number k.held)) k.octets mark_width limits.key_octets refl e

held_back : (m : Bool) → mark_of_lem (octets mark_width (mark_number m)) ≡ m
held_back true = refl
held_back false = refl

pub key_back : (k : Key) → length k.octets ≡ limits.key_octets → key_of (key_octets k) ≡ k
unfolding key_of
key_back k e =
    let h = held_back k.held in
    let o = take_all limits.key_octets k.octets (omega arith) in
    λ j. record { held = h j; octets = o j }

-- ---- the link and the ports

module _ (l : Link) (e-allocs : length l.allocs.ids ≡ added_allocs) (e-key : length l.key.octets ≡ limits.key_octets) (e-answers : length l.owed.answers ≡ most_owed) where
  l2 : length (octets id_width l.onu.0 ++ allocs_octets l.allocs) ≡ delay_at
  l2 = joined (octets id_width l.onu.0) (allocs_octets l.allocs) allocs_at allocs_width refl (allocs_length l.allocs e-allocs)

  l3 : length ((octets id_width l.onu.0 ++ allocs_octets l.allocs) ++ octets delay_width l.delay) ≡ key_at
  l3 = joined (octets id_width l.onu.0 ++ allocs_octets l.allocs) (octets delay_width l.delay) delay_at delay_width l2 refl

  l4 : length (((octets id_width l.onu.0 ++ allocs_octets l.allocs) ++ octets delay_width l.delay) ++ key_octets l.key) ≡ queue_at
  l4 = joined ((octets id_width l.onu.0 ++ allocs_octets l.allocs) ++ octets delay_width l.delay) (key_octets l.key) key_at key_width l3 (key_length l.key e-key)

  pub link_length : length (link_octets l) ≡ link_width
  link_length = joined (((octets id_width l.onu.0 ++ allocs_octets l.allocs) ++ octets delay_width l.delay) ++ key_octets l.key) (queue_octets l.owed) queue_at queue_width l4 (queue-length l.owed e-answers)

  pub link-back
      : l.onu.0 < 256 ^ id_width → Every (λ (id : AllocId). id.0 < 256 ^ id_width) l.allocs.ids → l.allocs.count < 256 ^ count_width
      → l.delay < 256 ^ delay_width → l.owed.count < 256 ^ count_width → link_of (link_octets l) ≡ l
  unfolding link_of
  link-back h1 h2 h3 h4 h5 =
      let p2 : List ℕ = octets id_width l.onu.0 ++ allocs_octets l.allocs in
      let p3 : List ℕ = p2 ++ octets delay_width l.delay in
      let p4 : List ℕ = p3 ++ key_octets l.key in
      let q : List ℕ = queue_octets l.owed in
      let n1 : part onu_at id_width (p4 ++ q) ≡ octets id_width l.onu.0 = front p4 q onu_at id_width (omega (arith, l4)) ∙ front p3 (key_octets l.key) onu_at id_width (omega (arith, l3)) ∙ front p2 (octets delay_width l.delay) onu_at id_width (omega (arith, l2)) ∙ refl in
      let n2 : part allocs_at allocs_width (p4 ++ q) ≡ allocs_octets l.allocs = front p4 q allocs_at allocs_width (omega (arith, l4)) ∙ front p3 (key_octets l.key) allocs_at allocs_width (omega (arith, l3)) ∙ front p2 (octets delay_width l.delay) allocs_at allocs_width (omega (arith, l2)) ∙ back (octets id_width l.onu.0) (allocs_octets l.allocs) allocs_at allocs_width refl (allocs_length l.allocs e-allocs) in
      let n3 : part delay_at delay_width (p4 ++ q) ≡ octets delay_width l.delay = front p4 q delay_at delay_width (omega (arith, l4)) ∙ front p3 (key_octets l.key) delay_at delay_width (omega (arith, l3)) ∙ back p2 (octets delay_width l.delay) delay_at delay_width l2 refl in
      let n4 : part key_at key_width (p4 ++ q) ≡ key_octets l.key = front p4 q key_at key_width (omega (arith, l4)) ∙ back p3 (key_octets l.key) key_at key_width l3 (key_length l.key e-key) in
      let n5 : part queue_at queue_width (p4 ++ q) ≡ q = back p4 q queue_at queue_width l4 (queue-length l.owed e-answers) in
      let f1 = ap value n1 ∙ value-octets id_width l.onu.0 h1 in
      let f2 = ap allocs_of n2 ∙ allocs_back l.allocs e-allocs h2 h3 in
      let f3 = ap value n3 ∙ value-octets delay_width l.delay h4 in
      let f4 = ap key_of n4 ∙ key_back l.key e-key in
      let f5 = ap queue_of n5 ∙ queue_back l.owed e-answers h5 in
      λ j. record { onu = record { 0 = f1 j }; allocs = f2 j; delay = f3 j; key = f4 j; owed = f5 j }

module _ (p : Ports) (e-ids : length p.ids ≡ added_ports) (e-lengths : length p.lengths ≡ slots) (e-waiting : length p.waiting ≡ slots) where
  m1 : length (each port_octets p.ids) ≡ port_ids_width
  m1 = each-length port_octets id_width (λ x. refl) p.ids ∙ ap (λ (n : ℕ). id_width * n) e-ids

  m2 : length (each length_octets p.lengths) ≡ lengths_width
  m2 = each-length length_octets length_width (λ x. refl) p.lengths ∙ ap (λ (n : ℕ). length_width * n) e-lengths

  m3 : length (each mark_octets p.waiting) ≡ waiting_width
  m3 = each-length mark_octets mark_width (λ x. refl) p.waiting ∙ ap (λ (n : ℕ). mark_width * n) e-waiting

  m4 : length (each port_octets p.ids ++ each length_octets p.lengths) ≡ waiting_at
  m4 = joined (each port_octets p.ids) (each length_octets p.lengths) lengths_at lengths_width m1 m2

  pub ports_length : length (ports_octets p) ≡ ports_width
  ports_length = joined (each port_octets p.ids ++ each length_octets p.lengths) (each mark_octets p.waiting) waiting_at waiting_width m4 m3

  pub ports_back : Every (λ (id : PortId). id.0 < 256 ^ id_width) p.ids → Every (λ (bytes : ℕ). bytes < 256 ^ length_width) p.lengths → ports_of (ports_octets p) ≡ p
  unfolding ports_of
  ports_back h1 h2 =
      let a : List ℕ = each port_octets p.ids in
      let b : List ℕ = each length_octets p.lengths in
      let c : List ℕ = each mark_octets p.waiting in
      let n1 : part port_ids_at port_ids_width ((a ++ b) ++ c) ≡ take port_ids_width a = front (a ++ b) c port_ids_at port_ids_width (omega (arith, m4)) ∙ front a b port_ids_at port_ids_width (omega (arith, m1)) in
      let n2 : part lengths_at lengths_width ((a ++ b) ++ c) ≡ take lengths_width b = front (a ++ b) c lengths_at lengths_width (omega (arith, m4)) ∙ back a b lengths_at lengths_width m1 m2 ∙ sym (take_all lengths_width b (omega (arith, m2))) in
      let n3 : part waiting_at waiting_width ((a ++ b) ++ c) ≡ take waiting_width c = back (a ++ b) c waiting_at waiting_width m4 m3 ∙ sym (take_all waiting_width c (omega (arith, m3))) in
      let f1 = ap (many port_of id_width added_ports) n1 ∙ many-part port_of port_octets id_width (λ (id : PortId). id.0 < 256 ^ id_width) port_back (λ x. refl) added_ports port_ids_width p.ids h1 e-ids refl in
      let f2 = ap (many value length_width slots) n2 ∙ many-part value length_octets length_width (λ (n : ℕ). n < 256 ^ length_width) (λ n h. value-octets length_width n h) (λ x. refl) slots lengths_width p.lengths h2 e-lengths refl in
      let f3 = ap (many mark_of_lem mark_width slots) n3 ∙ many-part mark_of_lem mark_octets mark_width (λ (m : Bool). Unit {0}) (λ m h. mark_back m) (λ x. refl) slots waiting_width p.waiting (every_unit p.waiting) e-waiting refl in
      λ j. record { ids = f1 j; lengths = f2 j; waiting = f3 j }
