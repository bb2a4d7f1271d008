-- Document 01's list of keys, message by message.
-- Assumes nothing.
use mathlib.Core.Path.{◌≡◌, refl}
use mathlib.Core.Bool.{true, false, or-true}
use mathlib.Core.List.{List}
use Prim.Native.Nat.{ℕ}
use borrow.Author.Tests.{ne_eqb}
use Rattle.ids.specs.Ids.{same_onu, broadcast_onu}
use Rattle.ids.specs.declared.OnuId.{OnuId}
use Rattle.ploam.specs.Layout.{address_of, deactivate_onu_id, request_registration_lem, serial_number_onu, registration, acknowledgement}
use Rattle.integrity.specs.Integrity.{default_key_lem, installed_key_lem, key_for, genuine}
use Rattle.integrity.specs.declared.Direction.TheVariants.{Downstream, Upstream}

pub broadcast : (type : ℕ) (installed : List ℕ) → key_for Downstream broadcast_onu type installed ≡ default_key_lem
broadcast type installed = refl

-- so it is genuine or not whatever key is installed
pub broadcast_apart : (a b m : List ℕ) → same_onu (address_of m) broadcast_onu ≡ true → genuine a m ≡ genuine b m
unfolding genuine
broadcast_apart a b m e = rw e

pub deactivate : (onu : OnuId) (installed : List ℕ) → key_for Downstream onu deactivate_onu_id installed ≡ default_key_lem
deactivate onu installed = simp or-true

pub request : (onu : OnuId) (installed : List ℕ) → key_for Downstream onu request_registration_lem installed ≡ default_key_lem
request onu installed = simp or-true

-- every other directed message
pub directed : (onu : OnuId) (type : ℕ) (installed : List ℕ) → (onu.0 ≡ 1023 → ⊥) → (type ≡ deactivate_onu_id → ⊥)
    → (type ≡ request_registration_lem → ⊥) → key_for Downstream onu type installed ≡ installed
directed onu type installed a b c =
    simp (ne_eqb onu.0 1023 a, ne_eqb type deactivate_onu_id b, ne_eqb type request_registration_lem c)

pub serial-number : (onu : OnuId) (installed : List ℕ) → key_for Upstream onu serial_number_onu installed ≡ default_key_lem
serial-number onu installed = refl

pub registered : (onu : OnuId) (installed : List ℕ) → key_for Upstream onu registration installed ≡ default_key_lem
registered onu installed = refl

pub acknowledged : (onu : OnuId) (installed : List ℕ) → key_for Upstream onu acknowledgement installed ≡ installed
acknowledged onu installed = refl

-- where none is installed
pub none_installed : (key : List ℕ) → installed_key_lem false key ≡ default_key_lem
none_installed key = refl
