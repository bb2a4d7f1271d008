-- The replies of a frame, written one after another into a lent buffer.
-- Assumes nothing.
use Rattle.std.specs.Prelude.{None, Option, Some, ℕ, zero, suc, min, ◌+◌, ◌*◌, ◌/◌, ◌≡◌, List, ◌++◌, length, take, drop}
use Rattle.ploamu.specs.declared.UpstreamMessage.{UpstreamMessage}
use Rattle.aes.specs.Words.{words_of, Octets}
use Rattle.cmac.specs.Tags.{prepared_by}
use Rattle.cmac.specs.declared.Prepared.{Prepared}
use Rattle.ploam.specs.Layout.{message_octets}
use Rattle.integrity.specs.Integrity.{default_key_lem, installed_key_lem}
use Rattle.ploamu.specs.Writing.{written}
use Rattle.station.specs.declared.Station.{Station}
use Rattle.link.specs.declared.Key.{Key}
use Rattle.replies.specs.Replying.{reply_of_lem, after_reply_lem}

-- the key that signs: the installed one, or the default if none
abbrev pub key_of : Key → List ℕ
key_of k = installed_key_lem k.held k.octets

-- the octets of one reply
abbrev pub said : Station → Option UpstreamMessage → List ℕ → List ℕ
said s None target = target
said s (Some message) target = (written (key_of s.link.key) message s.registration target).target

unfoldable pub wrote : Station → ℕ → List ℕ → List ℕ
wrote s delay target = said s (reply_of_lem s delay) target

-- reply i in its place, and the others as they are
abbrev pub in_place : Station → ℕ → List ℕ → ℕ → List ℕ
in_place s delay b i =
    take (message_octets * i) b
    ++ (wrote s delay (take message_octets (drop (message_octets * i) b)) ++ drop message_octets (drop (message_octets * i) b))

-- the station and the buffer afterwards
pub record RepliesLeft : Type 0 where
  pub station : Station
  pub octets : List ℕ

abbrev pub replies_from : Station → ℕ → List ℕ → ℕ → ℕ → RepliesLeft
replies_from s delay b i zero = record { station = s; octets = b }
replies_from s delay b i (suc k) = replies_from (after_reply_lem s) delay (in_place s delay b i) (i + 1) k

-- n bursts send, as far as the buffer has room
abbrev pub Replied : Station → ℕ → ℕ → List ℕ → RepliesLeft → Type 0
Replied s n delay b left = left ≡ replies_from s delay b 0 (min n (length b / message_octets))

-- ---- the prepared keys are those of the station
pub record Keyed (usual installed : Prepared) (k : Key) : Type 0 where
  pub default : usual ≡ prepared_by (words_of default_key_lem)
  pub own : installed ≡ prepared_by (words_of (key_of k))
  pub octets : Octets (key_of k)
  pub sixteen : length (key_of k) ≡ 16
