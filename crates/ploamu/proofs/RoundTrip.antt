-- A message that was written and is read again is the message: its address, type, SeqNo and content; and its integrity
-- field is right under the same key and direction.
-- Assumes nothing.
use mathlib.Core.Path.{◌≡◌, ◌∙◌, refl, sym, ap, ap₂, subst}
use mathlib.Core.Bool.{Bool, true, false, cond}
use mathlib.Core.List.{List, ◌++◌, append_assoc}
use Prim.Native.Nat.{ℕ, ◌%◌, ◌<◌, ◌≤◌, ◌^◌}
use native.Mathlib.Omega.{arith}
use lib.Dec.{ltb}
use lib.ListN.{length, take, drop, length-append}
use lib.Seq.{take_at}
use borrow.Author.Tests.{le-leb, le-ltb, ltb-false}
use Rattle.std.specs.Prelude.{Ok, Err}
use Rattle.ploamu.specs.declared.Unheard.TheVariants.{Short}
use Rattle.ids.specs.declared.OnuId.{OnuId}
use Rattle.aes.specs.Words.{words_of, Octets}
use Rattle.cmac.specs.Tags.{prepared_by, mac64_by}
use Rattle.cmac.proofs.Macs.{mac64_prepared}
use Rattle.octets.specs.Octets.{value, octets}
use Rattle.octets.proofs.Numbers.{value-octets}
use Rattle.ploam.specs.Layout.{message_octets, covered_octets, addresses, address_of, type_of, seq_no_of}
use Rattle.integrity.specs.Integrity.{covered, mic_of, mic_right_lem, default_key_lem, by_default_lem, key_for}
use Rattle.integrity.specs.declared.Direction.TheVariants.{Upstream}
use Rattle.ploam.specs.declared.SerialNumber.{SerialNumber}
use Rattle.integrity.proofs.Keys.{octets-covered, default_octets}
use Rattle.integrity.proofs.Signed.{mic_length, signed_right}
use Rattle.ploamu.specs.Upstream.{longest_delay, capped, upstream_address, upstream_type, upstream_seq_no, upstream_content, upstream_octets_lem, fitting, registration_id_lem, heard_as, heard, as_sent, Numbers}
use Rattle.ploamu.specs.Writing.{MessageLeft, laid, written, written_by}
use Rattle.ploam.specs.declared.Completion.{Completion}
use Rattle.ploam.specs.declared.Completion.TheVariants.{Ok as OkCode, NoMessage, UnknownMessageType, ParameterError, ProcessingError}
use Rattle.ploamu.specs.declared.UpstreamMessage.{UpstreamMessage}
use Rattle.ploamu.specs.declared.UpstreamMessage.TheVariants.{SerialNumberOnu, Registration, Acknowledgement}
use Rattle.answers.specs.declared.Answer.TheVariants.{Done}

-- what is read of 48 octets m that came from a message
pub record Again (installed : List ℕ) (message : UpstreamMessage) (id m : List ℕ) : Type 0 where
  pub address : address_of m ≡ upstream_address message
  pub type : type_of m ≡ upstream_type message
  pub seq_no_lem : seq_no_of m ≡ upstream_seq_no message
  pub content : take 36 (drop 4 m) ≡ upstream_content message id
  pub said : heard m ≡ Ok (as_sent message)
  pub right : mic_right_lem (key_for Upstream (address_of m) (type_of m) installed) Upstream m ≡ true

pub content_length : (message : UpstreamMessage) (id : List ℕ) → length id ≡ 36 → length (upstream_content message id) ≡ 36
content_length (SerialNumberOnu serial delay) id h = refl
content_length (Registration onu seq) id h = h
content_length (Acknowledgement onu seq code) id h = refl

pub octets-length : (message : UpstreamMessage) (id : List ℕ) → length id ≡ 36 → length (upstream_octets_lem message id) ≡ covered_octets
unfolding upstream_octets_lem
octets-length message id h = let l = content_length message id h in omega arith

narrow : (message : UpstreamMessage) → Numbers message → (upstream_address message).0 < 1024
narrow (SerialNumberOnu serial delay) n = omega arith
narrow (Registration onu seq) n = n
narrow (Acknowledgement onu seq code) n = n

sent_onu : (onu : OnuId) → onu.0 < addresses → ◌≡◌ {A = OnuId} (record { 0 = value (octets 2 onu.0) % addresses }) onu
sent_onu onu h =
    let e : value (octets 2 onu.0) % addresses ≡ onu.0 = omega (arith, value-octets 2 onu.0 (omega arith)) in
    ap (λ (n : ℕ). record { 0 = n }) e

number : (n : ℕ) → n < 2 ^ 32 → value (octets 4 n) ≡ n
number n h = value-octets 4 n h

cut : (b : Bool) (delay : ℕ) → ltb longest_delay delay ≡ b → cond b longest_delay delay < 2 ^ 32
cut true delay e = omega arith
cut false delay e = let h = ltb-false longest_delay delay e in omega arith

capped_small : (delay : ℕ) → capped delay < 2 ^ 32
capped_small delay = cut (ltb longest_delay delay) delay refl

said-again : (message : UpstreamMessage) (id tail : List ℕ) → Numbers message
    → heard_as (upstream_type message) (upstream_octets_lem message id ++ tail) ≡ Ok (as_sent message)
unfolding heard_as upstream_octets_lem
said-again (SerialNumberOnu serial delay) id tail n =
    ap₂ (λ (s : SerialNumber) (d : ℕ). Ok (SerialNumberOnu s d))
    (ap₂ (λ (v w : ℕ). record { vendor = v; vssn = w }) (number serial.vendor n.0) (number serial.vssn n.1))
    (number (capped delay) (capped_small delay))
said-again (Registration onu seq) id tail n = ap (λ (o : OnuId). Ok (Registration o seq)) (sent_onu onu n)
said-again (Acknowledgement onu seq OkCode) id tail n = ap (λ (o : OnuId). Ok (Acknowledgement o seq OkCode)) (sent_onu onu n)
said-again (Acknowledgement onu seq NoMessage) id tail n =
    ap (λ (o : OnuId). Ok (Acknowledgement o seq NoMessage)) (sent_onu onu n)
said-again (Acknowledgement onu seq UnknownMessageType) id tail n =
    ap (λ (o : OnuId). Ok (Acknowledgement o seq UnknownMessageType)) (sent_onu onu n)
said-again (Acknowledgement onu seq ParameterError) id tail n =
    ap (λ (o : OnuId). Ok (Acknowledgement o seq ParameterError)) (sent_onu onu n)
said-again (Acknowledgement onu seq ProcessingError) id tail n =
    ap (λ (o : OnuId). Ok (Acknowledgement o seq ProcessingError)) (sent_onu onu n)

fits-narrow : (message : UpstreamMessage) → Numbers message → fitting message ≡ true
fits-narrow message n = le-leb (upstream_address message).0 1023 (omega (arith, narrow message n))

-- what stands in the target
pub target_is : (installed : List ℕ) (message : UpstreamMessage) (id target : List ℕ) → Numbers message
    → message_octets ≤ length target
    → written installed message id target
    ≡ record {
      answer = Done;
      target =
          upstream_octets_lem message id
          ++ mic_of (key_for Upstream (upstream_address message) (upstream_type message) installed) Upstream (upstream_octets_lem message id)
          ++ drop message_octets target;
    }
unfolding written
target_is installed message id target n h =
    simp (fits-narrow message n, le-leb message_octets (length target) h)

again : (installed : List ℕ) (message : UpstreamMessage) (id rest : List ℕ) → Numbers message → length id ≡ 36
    → Again installed message id
    (upstream_octets_lem message id
    ++ mic_of (key_for Upstream (upstream_address message) (upstream_type message) installed) Upstream (upstream_octets_lem message id)
    ++ rest)
unfolding upstream_octets_lem heard
again installed message id rest n li =
    let key = key_for Upstream (upstream_address message) (upstream_type message) installed in
    let octets = upstream_octets_lem message id in
    let mic = mic_of key Upstream octets in
    let m = octets ++ mic ++ rest in
    let content = upstream_content message id in
    let lo = octets-length message id li in
    let lm = mic_length key (covered Upstream octets) in
    let h : message_octets ≤ length m = simp length-append (omega arith) in
    record {
      address = sent_onu (upstream_address message) (narrow message n);
      type = refl;
      seq_no_lem = refl;
      content = ap (take 36) (append_assoc content mic rest) ∙ take_at content (mic ++ rest) 36 (content_length message id li);
      said =
          ap (λ (b : Bool). cond b (Err Short) (heard_as (upstream_type message) m)) (le-ltb (length m) message_octets h)
          ∙ ap (heard_as (upstream_type message)) (append_assoc octets mic rest)
          ∙ said-again message id (mic ++ rest) n;
      right = signed_right key Upstream octets rest lo;
    }

-- every message whose numbers fit their fields, under every key, into every target that holds it
pub round_trip : (installed : List ℕ) (message : UpstreamMessage) (id target : List ℕ) → Numbers message → length id ≡ 36
    → message_octets ≤ length target → Again installed message id (written installed message id target).target
round_trip installed message id target n li h =
    subst (Again installed message id) (sym (ap (λ (left : MessageLeft). left.target) (target_is installed message id target n h)))
    (again installed message id (drop message_octets target) n li)

-- by the true table and keys prepared with it, what is written is what clause 15.6 says
chosen : (b : Bool) (key octets : List ℕ) → Octets key → length key ≡ 16 → Octets octets
    → mac64_by (cond b (prepared_by (words_of default_key_lem)) (prepared_by (words_of key))) (covered Upstream octets)
    ≡ mic_of (cond b default_key_lem key) Upstream octets
chosen true key octets ok h oo =
    mac64_prepared default_key_lem (covered Upstream octets) default_octets refl (octets-covered Upstream octets oo)
chosen false key octets ok h oo = mac64_prepared key (covered Upstream octets) ok h (octets-covered Upstream octets oo)

pub written_prepared : (key : List ℕ) (message : UpstreamMessage) (id target : List ℕ) → Octets key → length key ≡ 16
    → Octets (upstream_octets_lem message id)
    → written_by (prepared_by (words_of default_key_lem)) (prepared_by (words_of key)) message id target
    ≡ written key message id target
unfolding written_by written
written_prepared key message id target ok h oo =
    ap (λ (mic : List ℕ). laid mic (fitting message) (upstream_octets_lem message id) target)
    (chosen (by_default_lem Upstream (upstream_address message) (upstream_type message)) key (upstream_octets_lem message id) ok h oo)
