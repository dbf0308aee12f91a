-- A get that holds a place is served at the desk as its party is in the pool.
use Rattle.deadpool_trial.proofs.Basics.{cond-true, cond-false, ◌≡◌, ◌≢◌, ℕ, ◌+◌, ◌-◌, ◌<◌, ◌≤◌, List, [], ◌∷◌, length}
use Rattle.deadpool_trial.proofs.Basics.{set, refl, sym, ap, ◌∙◌, subst, arith, Option, Some, None, nat_lt, unwrap_or}
use Rattle.deadpool_trial.proofs.Basics.{lt-ltb, le-ltb, slice_get, slice_get-get_or, largest_usize}
use Rattle.deadpool_trial.proofs.Words.{QueueMode, Fifo, Lifo, Timeouts, NumbersExhausted, start, DeskState, next_idle}
use Rattle.deadpool_trial.proofs.Words.{other_idle, settled, Serves, Getting, AfterServed, Moment, Pool, Party}
use Rattle.deadpool_trial.proofs.Words.{Standing, recycling, creating_count, settle, unqueued as pool_unqueued, go_on}
use Rattle.deadpool_trial.proofs.Words.{serve_from, serve, party_of, TrialInvariant, given, reply_to, Slot, PreRecycle}
use Rattle.deadpool_trial.proofs.Words.{Stage, Turn, DeskReply, Reply, Setup, image, get_at}
use Rattle.deadpool_managed.specs.Stages as stage
use Rattle.deadpool_trial.specs.declared.moves.Reply.TheVariants as reply
use Rattle.deadpool_trial.proofs.DeskImage.{Owns, NoTicket, settles, counted_settled, goes, creates, prepares, lasts}
use Rattle.deadpool_trial.proofs.DeskImage.{TrialInvariant-set, put}

module _ {T : Type 0} where
  -- if nothing is idle, nothing is next
  next_idle-none : (mode : QueueMode) (idle : List (Slot T)) → idle ≡ [] → next_idle mode idle ≡ None
  next_idle-none Fifo idle e = rw e refl
  next_idle-none Lifo idle e = rw e refl

  -- if something is idle, something is next
  next_idle-some : (mode : QueueMode) (idle : List (Slot T)) → idle ≢ []
      → (slot : Slot T) × (next_idle mode idle ≡ Some slot)
  next_idle-some mode [] some = absurd (some refl)
  next_idle-some Fifo (s ∷ ss) some = (s, refl)
  next_idle-some Lifo (s ∷ ss) some = (_, slice_get-get_or (s ∷ ss) (length (s ∷ ss) - 1) s (omega arith))

-- core: the desk before; d: the desk without the place of the get at n; granted, waiting: the queue of the pool without
-- the get
module _ {M V E C R S F A : Type 0} (setup : Setup M F A V E C R S) (n : ℕ) (core d : DeskState (Slot V))
    (gets : List (Option (Getting V C R S))) (out : List (Slot V)) (own : Timeouts) (old : Stage V C R S)
    (standing : Standing V C R S) (granted waiting : List ℕ)
    (h : slice_get gets n ≡ Some (Some record { timeouts = own; stage = old })) (k : TrialInvariant core gets out) where
  abbrev pool : Pool V C R S F A
  pool = record (image setup d gets out) { granted = granted; waiting = waiting }

  abbrev after : DeskState (Slot V) → Stage V C R S → Pool V C R S F A
  after d' s = image setup d' (set gets n (get_at own s)) out

  abbrev party : Party V C R S
  party = record { timeouts = own; standing = standing }

  -- the get has left the counts and the queue
  pub record HasLeft : Type 0 where
    pub owned : (s : Stage V C R S) → NoTicket (get_at own s) → Owns d (set gets n (get_at own s))
    pub named : (s : Stage V C R S) → NoTicket (get_at own s) → put n (party_of (get_at own s)) pool ≡ after d s
    pub unqueued : pool_unqueued n pool ≡ pool
    pub going : d.going + goes (get_at own old) ≡ core.going
    pub creations : d.creations ≡ core.creations
    pub outside : d.outside ≡ core.outside
    -- and it held nothing but its place
    pub creates_none : creates (get_at own old) ≡ 0
    pub prepares_none : prepares (get_at own old) ≡ 0
    pub lasts_still : lasts (get_at own old) ≡ 1

  -- the pool and the desk count the same creations
  creating_same : HasLeft → d.next + creating_count pool ≡ d.next + d.creations
  creating_same left = omega (arith, left.creations, k.creations)

  -- the counts when it stands elsewhere
  stood : HasLeft → (d' : DeskState (Slot V)) (s : Stage V C R S) → Owns d' (set gets n (get_at own s))
      → d'.going ≡ d.going + goes (get_at own s)
      → d'.creations ≡ d.creations + creates (get_at own s) → d'.outside ≡ d.outside + prepares (get_at own s)
      → lasts (get_at own s) ≤ 1 → TrialInvariant d' (set gets n (get_at own s)) out
  stood left d' s o places creations outside room =
      TrialInvariant-set core d' gets n (get_at own old) (get_at own s) out out h k o record {
        going = omega (arith, left.going, places);
        creations = omega (arith, left.creations, left.creates_none, creations);
        outside = omega (arith, left.outside, left.prepares_none, outside);
        room = omega (arith, left.lasts_still, room);
      }

  module _ (left : HasLeft) where
    -- the get is served an idle object
    served_object : (allowance : Option ℕ) (slot : Slot V) (more : ℕ) → next_idle d.mode d.idle ≡ Some slot
        → more + 1 ≡ unwrap_or allowance (length d.idle)
        → (serve {E = E} n party allowance pool
        ≡ (
          reply.More,
          after (record d { idle = other_idle d.mode d.idle; outside = d.outside + 1 })
              (stage.Recycling (PreRecycle slot start) (Some more)),
        ))
        × TrialInvariant (record d { idle = other_idle d.mode d.idle; outside = d.outside + 1 })
        (set gets n (get_at own (stage.Recycling (PreRecycle slot start) (Some more)))) out
    served_object allowance slot more e f =
        let new : Stage V C R S = stage.Recycling (PreRecycle slot start) (Some more) in
        let d' : DeskState (Slot V) = record d { idle = other_idle d.mode d.idle; outside = d.outside + 1 } in
        let less : unwrap_or allowance (length d.idle) - 1 ≡ more = omega (arith, f) in
        let taken : ℕ → Reply V E × Pool V C R S F A =
        λ m. go_on n party (recycling (PreRecycle slot start) (Some m))
        (record pool { idle = other_idle d.mode d.idle }) in (
          ap (λ (i : Option (Slot V)). serve_from i (unwrap_or allowance (length d.idle)) n party pool) e
              ∙ cond-true (nat_lt 0 (unwrap_or allowance (length d.idle))) _ _ (lt-ltb 0 _ (omega (arith, f)))
              ∙ ap taken less
              ∙ ap (λ (q : Pool V C R S F A). (reply.More, record q { idle = other_idle d.mode d.idle }))
              (left.named new (λ u. refl)),
          stood left d' new (left.owned new (λ u. refl)) (omega arith) (omega arith) refl (omega arith),
        )

    -- it keeps the place, and may take no idle object more
    served_going : (allowance : Option ℕ) → d.idle ≢ [] → unwrap_or allowance (length d.idle) ≡ 0
        → (serve {E = E} n party allowance pool
        ≡ (reply.Pending, after (record d { going = d.going + 1 }) (stage.Going None)))
        × TrialInvariant (record d { going = d.going + 1 }) (set gets n (get_at own (stage.Going None))) out
    served_going allowance some f =
        let i = next_idle-some d.mode d.idle some in (
          ap (λ (i : Option (Slot V)). serve_from i (unwrap_or allowance (length d.idle)) n party pool) i.1
              ∙ ap (λ m. serve_from (Some i.0) m n party pool) f
              ∙ ap (λ (q : Pool V C R S F A). (reply.Pending, q)) (left.named (stage.Going None) (λ u. refl)),
          stood left (record d { going = d.going + 1 }) (stage.Going None)
              (left.owned (stage.Going None) (λ u. refl)) refl (omega arith) (omega arith) (omega arith),
        )

    -- nothing is idle, and the get begins a creation
    served_create : (allowance : Option ℕ) → d.idle ≡ [] → d.next + d.creations < largest_usize
        → (serve {E = E} n party allowance pool
        ≡ (reply.More, after (record d { creations = d.creations + 1 }) (stage.Creating None None)))
        × TrialInvariant (record d { creations = d.creations + 1 })
        (set gets n (get_at own (stage.Creating None None))) out
    served_create allowance empty less = (
      ap (λ (i : Option (Slot V)). serve_from i (unwrap_or allowance (length d.idle)) n party pool)
          (next_idle-none d.mode d.idle empty)
          ∙ cond-true (nat_lt (d.next + creating_count pool) largest_usize) _ _
          (lt-ltb _ _ (subst (λ m. m < largest_usize) (sym (creating_same left)) less))
          ∙ ap (λ (q : Pool V C R S F A). (reply.More, q)) (left.named (stage.Creating None None) (λ u. refl)),
      stood left (record d { creations = d.creations + 1 }) (stage.Creating None None)
          (left.owned (stage.Creating None None) (λ u. refl)) (omega arith) refl (omega arith) (omega arith),
    )

    -- no number is left for an object, and its place is free
    served_exhausted : (allowance : Option ℕ) → d.idle ≡ [] → largest_usize ≤ d.next + d.creations
        → (serve {E = E} n party allowance pool ≡ (reply.Failed NumbersExhausted, after (settled d) stage.Finished))
        × TrialInvariant (settled d) (set gets n (get_at own stage.Finished)) out
    served_exhausted allowance empty more =
        let counted = stood left d stage.Finished (left.owned stage.Finished (λ u. refl)) (omega arith) (omega arith)
        (omega arith) (omega arith) in (
          ap (λ (i : Option (Slot V)). serve_from i (unwrap_or allowance (length d.idle)) n party pool)
              (next_idle-none d.mode d.idle empty)
              ∙ cond-false (nat_lt (d.next + creating_count pool) largest_usize) _ _
              (le-ltb _ _ (subst (λ m. largest_usize ≤ m) (sym (creating_same left)) more))
              ∙ ap (λ (q : Pool V C R S F A). (reply.Failed NumbersExhausted, settle q))
              (ap (put n (party_of (get_at own stage.Finished))) left.unqueued
              ∙ left.named stage.Finished (λ u. refl))
              ∙ ap (λ (q : Pool V C R S F A). (reply.Failed NumbersExhausted, q))
              (sym (settles setup d (set gets n (get_at own stage.Finished)) out counted)),
          counted_settled d (set gets n (get_at own stage.Finished)) out counted,
        )

    -- what serving does at the desk, it does in the pool
    pub serves : (d' : DeskState (Slot V)) (allowance : Option ℕ) (deadline : Option Moment) (reply : DeskReply)
        (object : Option (Slot V)) (s : Stage V C R S) (t : Turn V E)
        → Serves d allowance object reply d' → AfterServed deadline reply object s t
        → (serve {E = E} n party allowance pool
        ≡ (reply_to t, image setup d' (set gets n (get_at own s)) (given t out)))
        × TrialInvariant d' (set gets n (get_at own s)) (given t out)
    serves d' allowance deadline (DeskReply.Object more) (Some slot) s t e a =
        rw (a.0, a.1, e.2) (served_object allowance slot more e.0 e.1)
    serves d' allowance deadline DeskReply.Going None s t e a = rw (a.0, a.1, e.2) (served_going allowance e.0 e.1)
    serves d' allowance deadline DeskReply.Create None s t e a = rw (a.0, a.1, e.2) (served_create allowance e.0 e.1)
    serves d' allowance deadline DeskReply.Exhausted None s t e a =
        rw (a.0, a.1, e.2) (served_exhausted allowance e.0 e.1)
    serves d' allowance deadline _ (Some slot) s t e a = absurd e
    serves d' allowance deadline _ None s t e a = absurd e
