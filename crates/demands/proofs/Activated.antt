-- One frame from O2-3 to O5: it brings Assign_ONU-ID, Ranging_Time and Assign_Alloc-ID, each signed under the default key. Their
-- integrity fields stand as what the key gives, and are right because what is signed is found right; none is computed.
-- Assumes nothing.
use Prim.Native.Nat.{ℕ, ◌+◌, ◌/◌}
use native.Mathlib.Omega.{arith}
use mathlib.Core.Path.{◌≡◌, ◌∙◌, refl, sym, ap, ap₂}
use mathlib.Core.Bool.{Bool, true, false, cond}
use mathlib.Core.List.{List, [], ◌∷◌, ◌++◌, append_assoc, append-nil}
use lib.Dec.{lit<, ltb}
use lib.ListN.{length, take, drop, replicate, length-append}
use lib.Seq.{take_at, drop_at, take_all}
use borrow.Author.Tests.{le-leb}
use lib.Count.{ones_in}
use Rattle.std.specs.Prelude.{None, Option, Some}
use Rattle.ploam.specs.declared.Message.{Message}
use Rattle.hec.specs.Reads.{word}
use Rattle.hec.proofs.Compute.{computed32}
use Rattle.bch.specs.Code.{remainder_from}
use Rattle.flips.proofs.FlipRule.{flips}
use Rattle.xgtc.specs.declared.hlend.Hlend.{Hlend}
use Rattle.xgtc.specs.Layouts.{hlend_of}
use Rattle.xgem.specs.Reads.{fields, taken}
use Rattle.xgtc.specs.Reads.{read_hlend_lem}
use Rattle.ploam.specs.Layout.{message_octets, covered_octets, address_of, type_of}
use Rattle.integrity.specs.Integrity.{covered, mic_of, mic_right_lem, default_key_lem, by_default_lem, installed_key_lem, genuine}
use Rattle.ploam.specs.Reading.{content_as, message_of, received}
use Rattle.integrity.specs.declared.Direction.TheVariants.{Downstream}
use Rattle.integrity.proofs.Signed.{mic_length, signed_right}
use Rattle.station.specs.declared.Station.{Station}
use Rattle.station.specs.declared.Activation.{Activation}
use Rattle.station.specs.declared.Activation.TheVariants.{Operation}
use Rattle.link.specs.declared.Allocs.{Allocs}
use Rattle.ploam.specs.declared.Completion.TheVariants.{Ok}
use Rattle.link.specs.declared.Owed.{Owed}
use Rattle.link.specs.declared.Response.TheVariants.{Acknowledgement}
use Rattle.ports.specs.declared.Ports.{Ports}
use Rattle.link.specs.Link.{no_key, no_allocs, none_owed, add_alloc, owe}
use Rattle.ports.specs.Ports.{no_ports, clear_management_lem}
use Rattle.timing.specs.Timing.{frame_end_lem}
use Rattle.effects.specs.declared.Change.TheVariants.{Range}
use Rattle.effects.specs.Effects.{answers}
use Rattle.decisions.specs.Ranging.{ranging_time_lem}
use Rattle.decisions.specs.Decisions.{assign_onu_id_lem, assign_alloc_id_lem, is_broadcast, is_ours, effect_of}
use Rattle.effects.specs.Changes.{identify, range, applied}
use Rattle.decisions.specs.Acts.{act}
use Rattle.messages.specs.Receiving.{acting, receive, messages_from, messages_in, receive_all}
use Rattle.downstream.specs.Lengths.{length_fits_lem}
use Rattle.frame.specs.Given.{enough}
use Rattle.downstream.specs.Partitions.{messages_of}
use Rattle.frame.specs.Frame.{planned_in, replies_in, payload_in, found_by, next, done, handled, frame_left}
use Rattle.engine.specs.Answers.{lost_in, Handled}
use Rattle.demands.proofs.RefutingRuns.{serial, registration, memory, buffers, lent, arrives, Leads, led, searching, searching_in_range}

-- ---- a signed message acts

unfoldable pub signed : List ℕ → List ℕ
signed octets = octets ++ mic_of default_key_lem Downstream octets

signed-length : (octets : List ℕ) → length octets ≡ covered_octets → length (signed octets) ≡ message_octets
unfolding signed
signed-length octets h = length-append octets (mic_of default_key_lem Downstream octets) ∙ ap₂ ◌+◌ h (mic_length default_key_lem (covered Downstream octets))

signed-genuine : (octets key : List ℕ) → length octets ≡ covered_octets → genuine (installed_key_lem false key) (signed octets) ≡ true
unfolding genuine signed
signed-genuine octets key h = go (by_default_lem Downstream (address_of (signed octets)) (type_of (signed octets)))
  where
    go : (b : Bool) → mic_right_lem (cond b default_key_lem default_key_lem) Downstream (octets ++ mic_of default_key_lem Downstream octets) ≡ true
    go true = ap (mic_right_lem default_key_lem Downstream) (sym (append-nil (octets ++ mic_of default_key_lem Downstream octets))) ∙ signed_right default_key_lem Downstream octets [] h
    go false = ap (mic_right_lem default_key_lem Downstream) (sym (append-nil (octets ++ mic_of default_key_lem Downstream octets))) ∙ signed_right default_key_lem Downstream octets [] h

signed_whole : (octets : List ℕ) → length octets ≡ covered_octets → received (signed octets) ≡ Some (message_of (signed octets))
unfolding received
signed_whole octets h = ap (λ (n : ℕ). cond (ltb n message_octets) None (Some (message_of (signed octets)))) (signed-length octets h)

signed_acts : (s : Station) (octets : List ℕ) → length octets ≡ covered_octets → s.link.key.held ≡ false
    → receive s (signed octets) ≡ act s true (message_of (signed octets))
unfolding receive
signed_acts s octets h e =
    ap₂ (λ (held : Bool) (r : Option Message). acting s (genuine (installed_key_lem held s.link.key.octets) (signed octets)) r) e (signed_whole octets h)
    ∙ ap (λ (b : Bool). acting s b (Some (message_of (signed octets)))) (signed-genuine octets s.link.key.octets h)

-- ---- the three messages

-- Assign_ONU-ID to all: 5 to the serial number of zeros
unfoldable pub assign_onu : List ℕ
assign_onu = 3 ∷ 255 ∷ 3 ∷ 1 ∷ 0 ∷ 5 ∷ replicate 34 0

-- Ranging_Time to 5: absolute, 0
unfoldable pub ranging_of : List ℕ
ranging_of = 0 ∷ 5 ∷ 4 ∷ 2 ∷ 1 ∷ replicate 35 0

-- Assign_Alloc-ID to 5: 1024, type 1
unfoldable pub assign_alloc : List ℕ
assign_alloc = 0 ∷ 5 ∷ 10 ∷ 3 ∷ 4 ∷ 0 ∷ 1 ∷ replicate 33 0

-- the station that the first has in O4, both have in O5, and all three
unfoldable pub identified : Station
identified = identify searching (record { 0 = 5 })

ranged : Station
ranged = applied identified (answers (Range 0) Ok 2)

abbrev pub ok_to : ℕ → Owed
ok_to seq = record { response = Acknowledgement Ok; seq_no = seq }

abbrev pub station_with : Activation → Allocs → Ports → Station
station_with activation allocs ports =
    record {
      activation = activation;
      serial = serial;
      registration = registration;
      link = record { onu = record { 0 = 5 }; allocs = allocs; delay = 0; key = no_key; owed = owe (owe none_owed (ok_to 2)) (ok_to 3) };
      ports = ports;
      carried = 0;
    }

abbrev pub given : Allocs
given = add_alloc no_allocs (record { 0 = 1024 })

abbrev pub operating : Station
operating = station_with Operation given (clear_management_lem no_ports)

pub to_o4 : receive searching (signed assign_onu) ≡ identified
unfolding assign_onu signed identified act is_ours is_broadcast effect_of content_as assign_onu_id_lem applied
to_o4 = signed_acts searching assign_onu refl refl

to_o5 : receive identified (signed ranging_of) ≡ ranged
unfolding ranging_of signed identified ranged identify act is_ours is_broadcast effect_of content_as ranging_time_lem applied
to_o5 = signed_acts identified ranging_of refl refl

to_alloc : receive ranged (signed assign_alloc) ≡ operating
unfolding assign_alloc signed identified ranged identify range act is_ours is_broadcast effect_of content_as assign_alloc_id_lem applied
to_alloc = signed_acts ranged assign_alloc refl refl

-- ---- the frame of the three

unfoldable pub three_messages : Hlend
three_messages = record { bwmap = 0; ploam = 3 }

behind : List ℕ
behind = signed assign_onu ++ (signed ranging_of ++ signed assign_alloc)

pub activating : List ℕ
activating = 0 ∷ 0 ∷ 126 ∷ 150 ∷ behind

pub reads_activating : read_hlend_lem activating ≡ fields three_messages
unfolding activating three_messages remainder_from ones_in flips
reads_activating = rw (le-leb 4 (length activating) (omega arith)) (ap (taken hlend_of) (computed32 0x00007E96 (lit< tt) (word 0x00007E96) refl))

module _ (a b c : List ℕ) (la : length a ≡ 48) (lb : length b ≡ 48) (lc : length c ≡ 48) where
  three-long : length (a ++ (b ++ c)) ≡ 144
  three-long = simp length-append (omega arith)

  three : messages_in (take 144 (a ++ (b ++ c))) ≡ a ∷ b ∷ c ∷ []
  three =
      let all = a ++ (b ++ c) in
      let ab : length (a ++ b) ≡ 96 = simp length-append (omega arith) in
      let second : take 48 (drop 48 all) ≡ b = ap (take 48) (drop_at a (b ++ c) 48 la) ∙ take_at b c 48 lb in
      let third : take 48 (drop 96 all) ≡ c
      = ap (λ (l : List ℕ). take 48 (drop 96 l)) (sym (append_assoc a b c)) ∙ ap (take 48) (drop_at (a ++ b) c 96 ab) ∙ take_all 48 c (omega arith) in
      ap messages_in (take_all 144 all (omega (arith, three-long)))
      ∙ ap (λ (n : ℕ). messages_from all 0 (n / 48)) three-long
      ∙ ap₂ ◌∷◌ (take_at a (b ++ c) 48 la) (ap₂ ◌∷◌ second (ap₂ ◌∷◌ third refl))

pub messages_activating : messages_in (messages_of three_messages activating) ≡ signed assign_onu ∷ signed ranging_of ∷ signed assign_alloc ∷ []
unfolding three_messages activating behind assign_onu ranging_of assign_alloc
messages_activating =
    three (signed assign_onu) (signed ranging_of) (signed assign_alloc)
    (signed-length assign_onu refl) (signed-length ranging_of refl) (signed-length assign_alloc refl)

received_activating : receive_all searching (messages_in (messages_of three_messages activating)) ≡ operating
received_activating =
    ap (receive_all searching) messages_activating
    ∙ ap (λ (s : Station). receive (receive s (signed ranging_of)) (signed assign_alloc)) to_o4
    ∙ ap (λ (s : Station). receive s (signed assign_alloc)) to_o5 ∙ to_alloc

activating_long : length activating ≡ 148
unfolding activating behind assign_onu ranging_of assign_alloc
activating_long =
    let n = three-long (signed assign_onu) (signed ranging_of) (signed assign_alloc) (signed-length assign_onu refl) (signed-length ranging_of refl) (signed-length assign_alloc refl) in
    omega arith

pub handled_activating : Handled searching (arrives activating) lent false (handled searching three_messages (arrives activating) lent)
unfolding lost_in length_fits_lem enough memory buffers three_messages
handled_activating =
    record {
      passed = record {
        state = searching_in_range;
        frame = ap length_fits_lem activating_long;
        buffers = ap (λ (n : ℕ). enough n (length lent.memory) (length lent.plan) (length lent.replies) (length lent.deliveries)) activating_long;
      };
      hlend = three_messages;
      reads = reads_activating;
      fits = omega (arith, activating_long);
      delineation = refl;
      leaves = refl;
    }

activating_leaves : (handled searching three_messages (arrives activating) lent).outcome.station ≡ operating
unfolding handled done found_by next planned_in replies_in payload_in three_messages frame_end_lem
activating_leaves = ap (λ (s : Station). frame_end_lem s false) received_activating

pub activating_keeps : (handled searching three_messages (arrives activating) lent).lent.memory ≡ memory
unfolding handled done payload_in
activating_keeps = refl

pub activated : Leads (frame_left searching (arrives activating) lent) operating
activated = led searching operating activating three_messages handled_activating activating_leaves activating_keeps
