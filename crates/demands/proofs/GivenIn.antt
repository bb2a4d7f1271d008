-- What the history says was considered stood in a frame of the run, among its messages.
-- Assumes nothing.
use Prim.Native.Nat.{ℕ, zero, suc}
use mathlib.Core.Path.{◌≡◌, refl, sym, ap, subst}
use mathlib.Core.Logic.{◌⊎◌, inl, inr}
use mathlib.Core.Bool.{Bool, true, false, cond, false≢true}
use mathlib.Core.List.{List, [], ◌∷◌, ◌++◌}
use Rattle.xgem.specs.Reads.{Found, fields, unreadable, short}
use Rattle.xgtc.specs.Reads.{read_hlend_lem}
use Rattle.station.specs.declared.Station.{Station}
use Rattle.answers.specs.Answers.{answer_number}
use Rattle.messages.specs.Receiving.{messages_in}
use Rattle.ledger.specs.Events.{Event, considered, ended, unread, replied, walked, carried_over_lem, port_added, port_removed, key_given, station_of}
use Rattle.ledger.specs.Events as event
use Rattle.ledger.specs.Ledger.{ledger, InLedger}
use Rattle.ledger.specs.Promises.{GivenBy}
use Rattle.ledger.proofs.Given.{given_by}
use Rattle.frame.specs.Given.{Arrival, Lent}
use Rattle.xgtc.specs.declared.hlend.Hlend.{Hlend}
use Rattle.downstream.specs.Partitions.{messages_of}
use Rattle.frame.specs.Frame.{planned_in}
use Rattle.plan.specs.Plan.{messages}
use Rattle.demands.specs.Engine.{Engine}
use Rattle.demands.specs.Runs.{Call, frame, lost, add_port_lem, remove_port_lem, give_key_lem, why_dark_lem, Buffers, Progress, lend, is_done_lem, is_unread, passes, arrived, befell, after, run, start}
use Rattle.demands.specs.Demand3.{MessageOf, GivenIn}

-- ---- the messages that a history has considered, the latest first

pub heard : List Event → List (List ℕ)
heard [] = []
heard (considered m ∷ h) = m ∷ heard h
heard (ended arrivedRanging ∷ h) = heard h
heard (unread ∷ h) = heard h
heard (event.lost ∷ h) = heard h
heard (replied ∷ h) = heard h
heard (walked ports ∷ h) = heard h
heard (carried_over_lem words ∷ h) = heard h
heard (port_added port ∷ h) = heard h
heard (port_removed port ∷ h) = heard h
heard (key_given octets ∷ h) = heard h

pub data Among (m : List ℕ) : List (List ℕ) → Type 0 where
  here : {l : List (List ℕ)} → Among m (m ∷ l)
  there : {x : List ℕ} {l : List (List ℕ)} → Among m l → Among m (x ∷ l)

pub was_heard : (m : List ℕ) (since before : List Event) → Among m (heard (since ++ (considered m ∷ before)))
unfolding heard
was_heard m [] before = here
was_heard m (considered x ∷ since) before = there (was_heard m since before)
was_heard m (ended arrivedRanging ∷ since) before = was_heard m since before
was_heard m (unread ∷ since) before = was_heard m since before
was_heard m (event.lost ∷ since) before = was_heard m since before
was_heard m (replied ∷ since) before = was_heard m since before
was_heard m (walked ports ∷ since) before = was_heard m since before
was_heard m (carried_over_lem words ∷ since) before = was_heard m since before
was_heard m (port_added port ∷ since) before = was_heard m since before
was_heard m (port_removed port ∷ since) before = was_heard m since before
was_heard m (key_given octets ∷ since) before = was_heard m since before

-- ---- a frame's events

first_or : (m x : List ℕ) (l k : List (List ℕ)) → Among m (x ∷ k) → Among m (x ∷ l) ⊎ Among m k
first_or m x l k here = inl here
first_or m x l k (there b) = inr b

by-messages : (m : List ℕ) (l : List (List ℕ)) (h : List Event) → Among m (heard (event.messages l h)) → Among m l ⊎ Among m (heard h)
unfolding heard
by-messages m [] h a = inr a
by-messages m (x ∷ l) h a = go (by-messages m l (considered x ∷ h) a)
  where
    go : Among m l ⊎ Among m (heard (considered x ∷ h)) → Among m (x ∷ l) ⊎ Among m (heard h)
    go (inl b) = inl (there b)
    go (inr b) = first_or m x l (heard h) b

by-replies : (m : List ℕ) (k : ℕ) (h : List Event) → Among m (heard (event.replies k h)) → Among m (heard h)
unfolding heard
by-replies m zero h a = a
by-replies m (suc k) h a = by-replies m k (replied ∷ h) a

record Split (m : List ℕ) (l : List (List ℕ)) : Type 0 where
  pub before : List (List ℕ)
  pub behind : List (List ℕ)
  pub lies : l ≡ before ++ (m ∷ behind)

split : (m : List ℕ) (l : List (List ℕ)) → Among m l → Split m l
split m [] a = elim a [ ]
split m (x ∷ l) here = record { before = []; behind = l; lies = refl }
split m (x ∷ l) (there a) =
    let s = split m l a in
    record { before = x ∷ s.before; behind = s.behind; lies = ap (λ (k : List (List ℕ)). x ∷ k) s.lies }

message-of : (a : Arrival) (hl : Hlend) → read_hlend_lem a.octets ≡ fields hl → (m : List ℕ) → Among m (messages_in (messages_of hl a.octets)) → MessageOf a m
message-of a hl e m among =
    let s = split m (messages_in (messages_of hl a.octets)) among in
    record { hlend = hl; reads = e; before = s.before; behind = s.behind; lies = s.lies }

by-arrived : (m : List ℕ) (r : Found Hlend) (s : Station) (a : Arrival) (lent : Lent) (h : List Event) → read_hlend_lem a.octets ≡ r
    → Among m (heard (arrived r s a lent h)) → MessageOf a m ⊎ Among m (heard h)
unfolding heard
by-arrived m unreadable s a lent h e among = inr among
by-arrived m short s a lent h e among = inr among
by-arrived m (fields hl) s a lent h e among = go (messages (planned_in s hl a)) (by-messages m (messages_in (messages_of hl a.octets)) _ among)
  where
    go : (k : ℕ) → Among m (messages_in (messages_of hl a.octets)) ⊎ Among m (heard (event.replies k h)) → MessageOf a m ⊎ Among m (heard h)
    go k (inl b) = inl (message-of a hl e m b)
    go k (inr b) = inr (by-replies m k h b)

by-befell : (m : List ℕ) (n : ℕ) (s : Station) (a : Arrival) (lent : Lent) (h : List Event) → Among m (heard (befell n s a lent h)) → MessageOf a m ⊎ Among m (heard h)
unfolding heard
by-befell m n s a lent h = go (is_done_lem n) (is_unread n)
  where
    go : (b c : Bool) → Among m (heard (cond b (arrived (read_hlend_lem a.octets) s a lent h) (cond c (unread ∷ h) h))) → MessageOf a m ⊎ Among m (heard h)
    go true c among = by-arrived m (read_hlend_lem a.octets) s a lent h refl among
    go false true among = inr among
    go false false among = inr among

-- ---- a run

-- a frame of the calls has the message
pub record Brought (calls : List Call) (m : List ℕ) : Type 0 where
  pub before : List Call
  pub arrival : Arrival
  pub buffers : Buffers
  pub behind : List Call
  pub call : calls ≡ before ++ (frame arrival buffers ∷ behind)
  pub of : MessageOf arrival m

later : (c : Call) (calls : List Call) (m : List ℕ) → Brought calls m → Brought (c ∷ calls) m
later c calls m b =
    record {
      before = c ∷ b.before;
      arrival = b.arrival;
      buffers = b.buffers;
      behind = b.behind;
      call = ap (λ (l : List Call). c ∷ l) b.call;
      of = b.of;
    }

module _ (E : Engine) (first : Station) (m : List ℕ) where
  by_call : (st : Progress) (c : Call) (l : List Call) → Among m (heard (after E first st c).history) → Brought (c ∷ l) m ⊎ Among m (heard st.history)
  unfolding heard
  by_call st (frame a b) l among = go (by-befell m (answer_number (E.frame st.station a (lend st b)).outcome.answer) (station_of first st.history) a (lend st b) st.history among)
    where
      go : MessageOf a m ⊎ Among m (heard st.history) → Brought (frame a b ∷ l) m ⊎ Among m (heard st.history)
      go (inl of) = inl (record { before = []; arrival = a; buffers = b; behind = l; call = refl; of = of })
      go (inr x) = inr x
  by_call st lost l among = inr (go (passes (answer_number (E.lost st.station).answer)) among)
    where
      go : (b : Bool) → Among m (heard (cond b (event.lost ∷ st.history) st.history)) → Among m (heard st.history)
      go true x = x
      go false x = x
  by_call st (add_port_lem port) l among = inr among
  by_call st (remove_port_lem port) l among = inr among
  by_call st (give_key_lem octets) l among = inr among
  by_call st (why_dark_lem f names) l among = inr among

  pub by-run : (calls : List Call) (st : Progress) → Among m (heard (run E first st calls).history) → Brought calls m ⊎ Among m (heard st.history)
  by-run [] st among = inr among
  by-run (c ∷ l) st among = go (by-run l (after E first st c) among)
    where
      go : Brought l m ⊎ Among m (heard (after E first st c).history) → Brought (c ∷ l) m ⊎ Among m (heard st.history)
      go (inl b) = inl (later c l m b)
      go (inr x) = by_call st c l x

-- what is in the ledger of a run's history stands in octets 5-6 of a message of one of its frames
pub given-in : (E : Engine) (first : Station) (memory : List ℕ) (calls : List Call) (n : ℕ) → InLedger (ledger first (run E first (start first memory) calls).history) n → GivenIn calls n
unfolding heard
given-in E first memory calls n i = whole ((given_by first n (run E first (start first memory) calls).history).0 i)
  where
    nothing-heard : (m : List ℕ) (l : List (List ℕ)) → l ≡ [] → Among m l → ⊥
    nothing-heard m [] e a = elim a [ ]
    nothing-heard m (x ∷ l) e a = absurd (nonempty e)
      where
        is_empty : List (List ℕ) → Bool
        is_empty [] = true
        is_empty (y ∷ k) = false

        nonempty : x ∷ l ≡ [] → ⊥
        nonempty q = false≢true (ap is_empty q)

    whole : GivenBy first (run E first (start first memory) calls).history n → GivenIn calls n
    whole g =
        go (by-run E first g.message calls (start first memory) (subst (λ (h : List Event). Among g.message (heard h)) (sym g.history) (was_heard g.message g.since g.earlier)))
      where
        go : Brought calls g.message ⊎ Among g.message (heard []) → GivenIn calls n
        go (inl b) =
            record {
              before = b.before;
              arrival = b.arrival;
              buffers = b.buffers;
              behind = b.behind;
              call = b.call;
              message = g.message;
              of = b.of;
              number = g.number;
            }
        go (inr x) = absurd (nothing-heard g.message [] refl x)
