-- What the frames of a payload deliver, one delivery behind the other.
-- Assumes nothing.
use Rattle.std.specs.Prelude.{Bool, true, false, List, [], ◌∷◌, ◌++◌, ℕ, ◌+◌, length}
use Rattle.ids.specs.declared.PortId.{PortId}
use Rattle.xgem.specs.declared.frame.XgemHeader.{XgemHeader}
use Rattle.xgem.specs.Writes.{carrying, xgem_frame}
use Rattle.fragments.specs.declared.Reassembly.{Reassembly}
use Rattle.fragments.specs.declared.Reassembly.TheVariants.{Ignored, Dropped, Delivered, Appended}
use Rattle.fragments.specs.Fragments.{reassembly_of_lem}
use Rattle.payload.specs.Frames.{Xgem}
use Rattle.payload.specs.Memory.{Receiver, delivery, partial, step}

abbrev pub delivery_of : List ℕ → Reassembly → PortId → List ℕ → List ℕ
delivery_of memory Ignored port body = []
delivery_of memory (Dropped slot waits) port body = []
delivery_of memory (Delivered slot have) port body = delivery port (partial memory slot have ++ body)
delivery_of memory (Appended slot have) port body = []

unfoldable pub deliveries_of : PortId → Receiver → List Xgem → List ℕ
deliveries_of own s [] = []
deliveries_of own s (x ∷ rest) =
    delivery_of s.memory (reassembly_of_lem s.ports own x.port x.last (length x.body)) x.port x.body ++ deliveries_of own (step own s x) rest

-- an SDU in fragments, the last of which is given apart
abbrev pub joined : List (List ℕ) → List ℕ → List ℕ
joined [] last = last
joined (f ∷ fragments) last = f ++ joined fragments last

-- the header of a fragment: LF is set on the last alone
abbrev pub fragment_header : XgemHeader → Bool → XgemHeader
fragment_header x last = record { pli = x.pli; key = x.key; port = x.port; options = x.options; last = last }

-- the octets of the fragments, as the writer of XGEM frames lays them out, and what stands behind them
abbrev pub written : XgemHeader → Bool → List ℕ → List ℕ
written x last f = xgem_frame (carrying (fragment_header x last) f) f

abbrev pub sent : XgemHeader → List (List ℕ) → List ℕ → List ℕ → List ℕ
sent x [] last rest = written x true last ++ rest
sent x (f ∷ fragments) last rest = written x false f ++ sent x fragments last rest
