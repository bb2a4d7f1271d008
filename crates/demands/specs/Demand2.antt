-- Demand 2: "Headers, grants, messages, integrity fields, payload and activation steps are as G.987.3 with Amendment 1 and our
-- first paper give them. What we write and read again comes back equal. A header is mended where a true one differs in at most
-- two bits, and is unreadable only where there is none."
-- What the frame call does with grants, messages, payload and activation steps is demand 1's row for answers 0 and 6, over
-- the definitions of their crates; here stand headers, what is written and read again, and integrity.
-- Assumes nothing.
use Rattle.std.specs.Prelude.{Ok}
use Rattle.std.specs.Prelude.{ℕ, ◌+◌, ◌≤◌, ◌≡◌, true, false, List, ◌++◌, length, take, drop}
use Rattle.xgtc.specs.declared.hlend.Hlend.{Hlend}
use Rattle.xgtc.specs.declared.allocation.Allocation.{Allocation}
use Rattle.xgem.specs.declared.frame.XgemHeader.{XgemHeader}
use Rattle.xgem.specs.Layouts.{xgem_fits, payload_size_lem}
use Rattle.xgtc.specs.Layouts.{hlend_fits, allocation_fits}
use Rattle.xgem.specs.Reads.{fields, read_xgem_lem}
use Rattle.xgtc.specs.Reads.{read_hlend_lem, read_allocation_lem}
use Rattle.xgem.specs.Writes.{carrying}
use Rattle.ploam.specs.Layout.{message_octets, covered_octets, address_of, type_of, seq_no_of}
use Rattle.integrity.specs.Integrity.{mic_of, mic_right_lem, key_for, installed_key_lem, genuine}
use Rattle.integrity.specs.declared.Direction.{Direction}
use Rattle.integrity.specs.declared.Direction.TheVariants.{Upstream}
use Rattle.ploamu.specs.Upstream.{upstream_address, upstream_type, upstream_seq_no, upstream_content, heard, as_sent, Numbers}
use Rattle.ploamu.specs.Writing.{written}
use Rattle.ploamu.specs.declared.UpstreamMessage.{UpstreamMessage}
use Rattle.station.specs.declared.Station.{Station}
use Rattle.messages.specs.Receiving.{receive}
use Rattle.demands.specs.Engine.{Engine}
use Rattle.demands.specs.Headers.{HeaderFact}

-- what is read of the octets m that were written of a message
pub record Again (installed : List ℕ) (message : UpstreamMessage) (id m : List ℕ) : Type 0 where
  pub address : address_of m ≡ upstream_address message
  pub type : type_of m ≡ upstream_type message
  pub seq_no_lem : seq_no_of m ≡ upstream_seq_no message
  pub content : take 36 (drop 4 m) ≡ upstream_content message id
  pub said : heard m ≡ Ok (as_sent message)
  pub right : mic_right_lem (key_for Upstream (address_of m) (type_of m) installed) Upstream m ≡ true

pub record Demand2 (E : Engine) : Type 0 where
  -- "A header is mended where a true one differs in at most two bits, and is unreadable only where there is none": HLend has 32
  -- bits, the other two 64
  pub headers : (n : ℕ) → n ≤ 64 → HeaderFact n
  -- "What we write and read again comes back equal"
  pub hlend : (h : Hlend) → hlend_fits h ≡ true → (target : List ℕ) → 4 ≤ length target → read_hlend_lem (E.writers.hlend h target).target ≡ fields h
  pub allocation : (a : Allocation) → allocation_fits a ≡ true → (target : List ℕ) → 8 ≤ length target → read_allocation_lem (E.writers.allocation a target).target ≡ fields a
  pub xgem : (x : XgemHeader) → xgem_fits x ≡ true → (target : List ℕ) → 8 ≤ length target → read_xgem_lem (E.writers.xgem x target).target ≡ fields x
  pub frame
      : (x : XgemHeader) (sdu : List ℕ) → xgem_fits (carrying x sdu) ≡ true → (target : List ℕ) → 8 + payload_size_lem (length sdu) ≤ length target
      → (read_xgem_lem (E.writers.xgem_frame x sdu target).target ≡ fields (carrying x sdu)) × (take (length sdu) (drop 8 (E.writers.xgem_frame x sdu target).target) ≡ sdu)
  pub message
      : (installed : List ℕ) (message : UpstreamMessage) (id target : List ℕ) → Numbers message → length id ≡ 36 → message_octets ≤ length target
      → Again installed message id (written installed message id target).target
  -- octets 1 to 40 that are signed are found right, in either direction
  pub signed
      : (key : List ℕ) (direction : Direction) (octets rest : List ℕ) → length octets ≡ covered_octets
      → mic_right_lem key direction (octets ++ mic_of key direction octets ++ rest) ≡ true
  -- and a message whose integrity field is not right under its own key changes nothing
  pub integrity : (s : Station) (m : List ℕ) → genuine (installed_key_lem s.link.key.held s.link.key.octets) m ≡ false → receive s m ≡ s
