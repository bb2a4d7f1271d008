-- No second outcome meets a contract: what each public function's proposition says of one outcome and of another makes
-- them equal.
-- Assumes nothing.
use Prim.Native.Nat.{ℕ}
use mathlib.Core.Path.{◌≡◌, ◌∙◌, sym}
use mathlib.Core.List.{List}
use Rattle.std.specs.Prelude.{Option}
use Rattle.ploamu.specs.declared.UpstreamMessage.{UpstreamMessage}
use Rattle.ids.specs.declared.PortId.{PortId}
use Rattle.ploam.specs.declared.Message.{Message}
use Rattle.station.specs.declared.Station.{Station}
use Rattle.station.specs.declared.Outcome.{Outcome}
use Rattle.host.specs.Host.{AddLeaves, RemoveLeaves, KeyLeaves}
use Rattle.effects.specs.declared.Effect.{Effect}
use Rattle.effects.specs.Changes.{Applies}
use Rattle.decisions.specs.Acts.{Decides}
use Rattle.messages.specs.Receiving.{AllReceived}
use Rattle.replies.specs.Replying.{Replies, Leaves}
use Rattle.replies.specs.Replies.{RepliesLeft, Replied}

pub add_determined : (s : Station) (p : PortId) (a b : Outcome) → AddLeaves s p a → AddLeaves s p b → a ≡ b
add_determined s p a b x y = x ∙ sym y

pub remove_determined : (s : Station) (p : PortId) (a b : Outcome) → RemoveLeaves s p a → RemoveLeaves s p b → a ≡ b
remove_determined s p a b x y = x ∙ sym y

pub key_determined : (s : Station) (o : List ℕ) (a b : Outcome) → KeyLeaves s o a → KeyLeaves s o b → a ≡ b
key_determined s o a b x y = x ∙ sym y

pub decide_determined : (s : Station) (m : Message) (a b : Effect) → Decides s m a → Decides s m b → a ≡ b
decide_determined s m a b x y = x ∙ sym y

pub apply_determined : (s : Station) (e : Effect) (a b : Station) → Applies s e a → Applies s e b → a ≡ b
apply_determined s e a b x y = x ∙ sym y

pub receive_determined : (s : Station) (m : List ℕ) (a b : Station) → AllReceived s m a → AllReceived s m b → a ≡ b
receive_determined s m a b x y = x ∙ sym y

pub reply_determined : (s : Station) (d : ℕ) (a b : Option UpstreamMessage) → Replies s d a → Replies s d b → a ≡ b
reply_determined s d a b x y = x ∙ sym y

pub after_reply_determined : (s a b : Station) → Leaves s a → Leaves s b → a ≡ b
after_reply_determined s a b x y = x ∙ sym y

pub replies_determined
    : (s : Station) (n d : ℕ) (octets : List ℕ) (a b : RepliesLeft) → Replied s n d octets a → Replied s n d octets b → a ≡ b
replies_determined s n d octets a b x y = x ∙ sym y

-- every other public function's contract is an equation `r ≡ definition`
pub one_equation : {A : Type 0} (a b d : A) → a ≡ d → b ≡ d → a ≡ b
one_equation a b d x y = x ∙ sym y
