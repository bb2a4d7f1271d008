-- What a frame call is given: what has arrived, and the buffers that are lent. Answer 3: the lengths of these.
-- Assumes nothing.
use Rattle.std.specs.Prelude.{ℕ, ◌+◌, ◌*◌, Bool, ◌&&◌, List, leb, length}
use Rattle.ploam.specs.Layout.{message_octets}
use Rattle.series.specs.Limits.{bursts_a_frame}
use Rattle.plan.specs.Limits.{plan_numbers}
use Rattle.payload.specs.Walk.{memory_bytes}

-- the frame of this frame time, with the random delay of Serial_Number_ONU in bit times
pub record Arrival : Type 0 where
  pub octets : List ℕ
  pub random_delay_lem : ℕ

abbrev pub arriving : List ℕ → ℕ → Arrival
arriving octets random_delay_lem = record { octets = octets; random_delay_lem = random_delay_lem }

-- another frame, all else as it was
abbrev pub with_octets : Arrival → List ℕ → Arrival
with_octets a octets = arriving octets a.random_delay_lem

pub record Lent : Type 0 where
  pub memory : List ℕ
  pub plan : List ℕ
  pub replies : List ℕ
  pub deliveries : List ℕ

abbrev pub lending : List ℕ → List ℕ → List ℕ → List ℕ → Lent
lending memory plan replies deliveries = record { memory = memory; plan = plan; replies = replies; deliveries = deliveries }

-- "Replies: 192 bytes, four messages of 48"
abbrev pub reply_octets : ℕ
reply_octets = bursts_a_frame * message_octets

-- "Port memory: .. 34,816 in all", "The plan is 256 numbers", "Replies: 192 bytes", "Delivery buffer: at least the frame's
-- length plus 34,816"
unfoldable pub enough : ℕ → ℕ → ℕ → ℕ → ℕ → Bool
enough frame memory plan replies deliveries =
    leb memory_bytes memory && (leb plan_numbers plan && (leb reply_octets replies && leb (frame + memory_bytes) deliveries))

abbrev pub buffers_fit : Arrival → Lent → Bool
buffers_fit a lent = enough (length a.octets) (length lent.memory) (length lent.plan) (length lent.replies) (length lent.deliveries)
