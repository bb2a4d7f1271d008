-- The messages of a frame: "Messages act one after another, each on the state left by the last".
-- Assumes nothing.
use Rattle.std.specs.Prelude.{None, Option, Some, ℕ, zero, suc, ◌+◌, ◌/◌, ◌≡◌, Bool, true, false, List, [], ◌∷◌, length}
use Rattle.ploam.specs.declared.Message.{Message}
use Rattle.cmac.specs.declared.Prepared.{Prepared}
use Rattle.cmac.specs.Tags.{Ready}
use Rattle.link.specs.declared.Key.{Key}
use Rattle.link.specs.Limits.{key_octets}
use Rattle.ploam.specs.Layout.{message_octets, message_at}
use Rattle.ploam.specs.Reading.{received}
use Rattle.integrity.specs.Integrity.{installed_key_lem, genuine, genuine_by}
use Rattle.station.specs.declared.Station.{Station}
use Rattle.decisions.specs.Acts.{act}

-- a message acts on the state in which it is considered, and is checked by the key held then
abbrev pub acting : Station → Bool → Option Message → Station
acting s isGenuine (Some message) = act s isGenuine message
acting s isGenuine None = s

unfoldable pub receive : Station → List ℕ → Station
receive s m = acting s (genuine (installed_key_lem s.link.key.held s.link.key.octets) m) (received m)

-- the k messages from message i on
abbrev pub messages_from : List ℕ → ℕ → ℕ → List (List ℕ)
messages_from b i zero = []
messages_from b i (suc k) = message_at b i ∷ messages_from b (i + 1) k

abbrev pub messages_in : List ℕ → List (List ℕ)
messages_in b = messages_from b 0 (length b / message_octets)

abbrev pub receive_all : Station → List (List ℕ) → Station
receive_all s [] = s
receive_all s (m ∷ l) = receive_all (receive s m) l

-- the same for any account of which messages are genuine
abbrev pub act_all : (List ℕ → Bool) → Station → List (List ℕ) → Station
act_all isGenuine s [] = s
act_all isGenuine s (m ∷ l) = act_all isGenuine (acting s (isGenuine m) (received m)) l

abbrev pub AllReceived : Station → List ℕ → Station → Type 0
AllReceived s b r = r ≡ receive_all s (messages_in b)

-- ---- the same by prepared keys, for every prepared key

unfoldable pub received_by : Prepared → Prepared → Station → List ℕ → Station
received_by usual installed s m = acting s (genuine_by usual installed m) (received m)

abbrev pub received_each_by : Prepared → Prepared → Station → List (List ℕ) → Station
received_each_by usual installed s [] = s
received_each_by usual installed s (m ∷ l) = received_each_by usual installed (received_by usual installed s m) l

abbrev pub received_all_by : Prepared → Prepared → Station → List ℕ → Station
received_all_by usual installed s b = received_each_by usual installed s (messages_in b)

-- what is given for the installed key: the one held, prepared, or the default
pub record Installed (usual : Prepared) (key : Key) (r : Prepared) : Type 0 where
  pub own : key.held ≡ true → (Ready key.octets r) × (length key.octets ≡ key_octets)
  pub none : key.held ≡ false → r ≡ usual
