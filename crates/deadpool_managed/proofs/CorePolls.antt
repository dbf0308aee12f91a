-- A poll over a core is one over the desk machine. If its get does not come to wait, nobody comes to or leaves the
-- queue.
use Rattle.deadpool_managed.proofs.Words.{Kept, ◌≡◌, ◌≢◌, ◌<◌, ℕ, Bool, List, [], ◌∷◌, map, true, false, Option, Some}
use Rattle.deadpool_managed.proofs.Words.{None, Result, Ok, Err, refl, sym, ap, ◌∙◌, subst, inl, inr, ⊤, Duration, Poll}
use Rattle.deadpool_managed.proofs.Words.{cannot_wait, Moment, Runtime, Timeouts, CoreState, DeskState, places}
use Rattle.deadpool_managed.proofs.Words.{HookLists, May, Serves, Does, Made, no_step, making, Makes, AfterServed}
use Rattle.deadpool_managed.proofs.Words.{AfterCreated, AfterCreation, AfterDiscard, AfterPrepared, AfterChecked}
use Rattle.deadpool_managed.proofs.Words.{AdvancesCreation, AdvancesFrom, Advanced, Advances, PollsOver, Slot, Prepared}
use Rattle.deadpool_managed.proofs.Words.{Stage, Unpolled, Queued, Going, Creating, Recycling, Checking, Finished}
use Rattle.deadpool_managed.proofs.Words.{Verdict, Turn, Reply, Step, AtOnce, LeavesQueue}
use Rattle.deadpool_managed.proofs.FirstPollAtOnce.{HasAnswer, creation_answered}
use Rattle.deadpool_managed.proofs.CoreDesk.{core_desk, own_desk, makes_at_desk}
use Rattle.deadpool_managed.proofs.Served.{entered_free}

-- the step is one of a get that is past the queue
abbrev pub IsPast : {V : Type 0} → Made V → Type 0
IsPast (making (Step.Enter wait) reply given) = ⊥
IsPast (making (Step.Ask ticket expired) reply given) = ⊥
IsPast (making (Step.Withdraw ticket) reply given) = ⊥
IsPast _ = ⊤

-- the get stands past the queue, or has ended
abbrev pub StandsPast : {V C R S : Type 0} → Stage V C R S → Type 0
StandsPast Unpolled = ⊥
StandsPast (Queued ticket deadline) = ⊥
StandsPast _ = ⊤

module _ {V C R S : Type 0} where
  stands_past : (stage next : Stage V C R S) → stage ≡ next → StandsPast next → StandsPast stage
  stands_past stage next is past = subst (λ (s : Stage V C R S). StandsPast s) (sym is) past

module _ {V E C R S : Type 0} where
  -- if a get is served it does not come to wait
  served_past : (d d' : DeskState (Slot V)) (allowance : Option ℕ) (deadline : Option Moment) (reply : Reply)
      (given : Option (Slot V)) (after : Stage V C R S) (turn : Turn V E)
      → Serves d allowance given reply d' → AfterServed deadline reply given after turn → StandsPast after
  served_past d d' allowance deadline (Reply.Object left) (Some slot) after turn serves h = stands_past after _ h.0 tt
  served_past d d' allowance deadline Reply.Create None after turn serves h = stands_past after _ h.0 tt
  served_past d d' allowance deadline Reply.Going None after turn serves h = stands_past after _ h.0 tt
  served_past d d' allowance deadline Reply.Exhausted None after turn serves h = stands_past after _ h.0 tt
  served_past d d' allowance deadline _ (Some slot) after turn serves h = absurd serves
  served_past d d' allowance deadline _ None after turn serves h = absurd serves

  -- nor does one that goes on
  again_past : (d d' : DeskState (Slot V)) (allowance : Option ℕ) (reply : Reply) (given : Option (Slot V))
      (after : Stage V C R S) (turn : Turn V E)
      → Does d (Step.Again allowance) given reply d' → AfterServed None reply given after turn → StandsPast after
  again_past d d' allowance Reply.Unknown None after turn does h = stands_past after _ h.0 tt
  again_past d d' allowance (Reply.Object left) (Some slot) after turn does h = stands_past after _ h.0 tt
  again_past d d' allowance Reply.Create None after turn does h = stands_past after _ h.0 tt
  again_past d d' allowance Reply.Going None after turn does h = stands_past after _ h.0 tt
  again_past d d' allowance Reply.Exhausted None after turn does h = stands_past after _ h.0 tt
  again_past d d' allowance _ (Some slot) after turn does h = absurd h
  again_past d d' allowance _ None after turn does h = absurd does.1

  created_after : (value : V) (now : Moment) (reply : Reply) (after : Stage V C R S) (turn : Turn V E)
      → AfterCreated value now reply after turn → StandsPast after
  created_after value now (Reply.Number number) after turn h = stands_past after _ h.0 tt
  created_after value now _ after turn h = stands_past after _ h.0 tt

  -- nor does it by what comes of a creation
  created_past : (now : Moment) (deadline : Option Moment) (x : Poll (Result V E) × C) (made : Made V)
      (after : Stage V C R S) (turn : Turn V E)
      → AfterCreation now deadline x made after turn → IsPast made × StandsPast after
  created_past now deadline (Poll.Ready (Ok value), c) (making Step.Created reply None) after turn h =
      (tt, created_after value now reply after turn h)
  created_past now deadline (Poll.Ready (Err e), c) (making Step.Failed reply None) after turn h =
      (tt, stands_past after _ h.0 tt)
  created_past now deadline (Poll.Pending, c) no_step after turn h = (tt, stands_past after _ h.1 tt)
  created_past now deadline (Poll.Pending, c) (making Step.Failed reply None) after turn h =
      (tt, stands_past after _ h.1 tt)
  created_past now deadline _ _ after turn h = absurd h

module _ {V E C R S F A : Type 0} (may : May V E C R S F A) (runtime : Option Runtime) (hooks : HookLists F A)
    (now : Moment) (timeouts : Timeouts) where
  creation_past : (timeout : Option Duration) (begun : Option C) (deadline : Option Moment) (made : Made V)
      (after : Stage V C R S) (turn : Turn V E)
      → AdvancesCreation may runtime now timeout begun deadline made after turn → IsPast made × StandsPast after
  creation_past timeout (Some c) deadline made after turn h = created_past now _ h.0 made after turn h.1.1
  creation_past timeout None deadline made after turn (inl h) =
      (subst (λ (m : Made V). IsPast m) (sym h.1.1) tt, stands_past after _ h.1.2 tt)
  creation_past timeout None deadline made after turn (inr h) = created_past now _ h.1.0 made after turn h.1.1.1

  discarded_past : (value : V) (allowance : Option ℕ) (reply : Reply) (after : Stage V C R S) (turn : Turn V E)
      → AfterDiscard may value allowance reply after turn → StandsPast after
  discarded_past value allowance Reply.Done after turn h = stands_past after _ h.1 tt
  discarded_past value allowance _ after turn h = stands_past after _ h.0 tt

  prepared_past : (allowance : Option ℕ) (x : Prepared V R S) (made : Made V) (after : Stage V C R S) (turn : Turn V E)
      → AfterPrepared may allowance x made after turn → IsPast made × StandsPast after
  prepared_past allowance (Prepared.Accepted slot) no_step after turn h = (tt, stands_past after _ h.0 tt)
  prepared_past allowance (Prepared.Pending preparation) no_step after turn h = (tt, stands_past after _ h.0 tt)
  prepared_past allowance (Prepared.GivenUp slot) (making Step.Discard reply None) after turn h =
      (tt, discarded_past slot.value.value allowance reply after turn h)
  prepared_past allowance _ _ after turn h = absurd h

  checked_past : (slot : Slot V) (x : Verdict S E × V) (made : Made V) (after : Stage V C R S) (turn : Turn V E)
      → AfterChecked may slot x made after turn → IsPast made × StandsPast after
  checked_past slot (Verdict.Accepted, v) no_step after turn h = (tt, stands_past after _ h.0 tt)
  checked_past slot (Verdict.Pending at, v) no_step after turn h = (tt, stands_past after _ h.0 tt)
  checked_past slot (Verdict.Refused e, v) (making Step.Refused reply None) after turn h =
      (tt, stands_past after _ h.1 tt)
  checked_past slot _ _ after turn h = absurd h

  -- so a get that is past the queue stays past it
  stays_past : (d d' : DeskState (Slot V)) (stage : Stage V C R S) (made : Made V) (after : Stage V C R S)
      (turn : Turn V E)
      → StandsPast stage → Makes core_desk d made d' → AdvancesFrom may runtime hooks now timeouts stage made after turn
      → IsPast made × StandsPast after
  stays_past d d' Unpolled made after turn past makes h = absurd past
  stays_past d d' (Queued ticket deadline) made after turn past makes h = absurd past
  stays_past d d' (Going allowance) (making (Step.Again asked) reply given) after turn past makes h =
      (tt, again_past d d' asked reply given after turn makes.1 h.1)
  stays_past d d' (Creating begun deadline) made after turn past makes h =
      creation_past timeouts.create begun deadline made after turn h
  stays_past d d' (Recycling preparation allowance) made after turn past makes h =
      prepared_past allowance h.0 made after turn h.1.1
  stays_past d d' (Checking slot at) made after turn past makes h = checked_past slot h.0 made after turn h.1.1
  stays_past d d' Finished no_step after turn past makes h = (tt, stands_past after _ h.0 tt)
  stays_past d d' _ _ after turn past makes h = absurd h

module _ {V : Type 0} where
  leaves_same : (c c' : CoreState (Kept V)) → c' ≡ c → LeavesQueue c c'
  leaves_same c c' same = (ap (λ b. b.unnotified) same, ap (λ b. b.queue_room) same)

  leaves_on : (c d e : CoreState (Kept V)) → LeavesQueue c d → LeavesQueue d e → LeavesQueue c e
  leaves_on c d e first then = (then.0 ∙ first.0, then.1 ∙ first.1)

  -- a step past the queue leaves it
  leaves_past : (c c' : CoreState (Kept V)) (made : Made V) → IsPast made → Makes own_desk c made c'
      → LeavesQueue c c'
  leaves_past c c' no_step past h = leaves_same c c' h
  leaves_past c c' (making (Step.Enter wait) reply given) past h = absurd past
  leaves_past c c' (making (Step.Ask ticket expired) reply given) past h = absurd past
  leaves_past c c' (making (Step.Withdraw ticket) reply given) past h = absurd past
  leaves_past c c' (making (Step.Again allowance) reply given) past h = (h.1.1, h.1.2)
  leaves_past c c' (making Step.Discard reply given) past h = (h.1.1, h.1.2)
  leaves_past c c' (making Step.Created reply given) past h = (h.1.1, h.1.2)
  leaves_past c c' (making Step.Failed reply given) past h = (h.1.1, h.1.2)
  leaves_past c c' (making Step.Refused reply given) past h = (h.1.1, h.1.2)
  leaves_past c c' (making Step.Back reply given) past h = (h.1.1, h.1.2)
  leaves_past c c' (making (Step.Cancel what) reply given) past h = (h.1.1, h.1.2)
  leaves_past c c' (making Step.Take reply given) past h = (h.1.1, h.1.2)

  -- such a step of the desk machine is one of a core that leaves its queue
  makes_past : (c c' : CoreState (Kept V)) (d' : DeskState (Slot V)) (made : Made V) → IsPast made → made ≢ no_step
      → LeavesQueue c c' → Makes core_desk c.desk made d'
      → Makes own_desk c made (record c' { desk = d' })
  makes_past c c' d' no_step past moved same h = absurd (moved refl)
  makes_past c c' d' (making (Step.Enter wait) reply given) past moved same h = absurd past
  makes_past c c' d' (making (Step.Ask ticket expired) reply given) past moved same h = absurd past
  makes_past c c' d' (making (Step.Withdraw ticket) reply given) past moved same h = absurd past
  makes_past c c' d' (making (Step.Again allowance) reply given) past moved same h = (h.0, (h.1, same.0, same.1))
  makes_past c c' d' (making Step.Discard reply given) past moved same h = (h.0, (h.1, same.0, same.1))
  makes_past c c' d' (making Step.Created reply given) past moved same h = (h.0, (h.1, same.0, same.1))
  makes_past c c' d' (making Step.Failed reply given) past moved same h = (h.0, (h.1, same.0, same.1))
  makes_past c c' d' (making Step.Refused reply given) past moved same h = (h.0, (h.1, same.0, same.1))
  makes_past c c' d' (making Step.Back reply given) past moved same h = (h.0, (h.1, same.0, same.1))
  makes_past c c' d' (making (Step.Cancel what) reply given) past moved same h = (h.0, (h.1, same.0, same.1))
  makes_past c c' d' (making Step.Take reply given) past moved same h = (h.0, (h.1, same.0, same.1))

  -- one that is made where the core stands already
  makes_here : (c : CoreState (Kept V)) (d d' : DeskState (Slot V)) (made : Made V) → IsPast made
      → Makes core_desk d made d' → Makes own_desk (record c { desk = d }) made (record c { desk = d' })
  makes_here c d d' no_step past h = ap (λ (b : DeskState (Slot V)). record c { desk = b }) h
  makes_here c d d' (making step reply given) past h =
      makes_past (record c { desk = d }) c d' (making step reply given) past (λ clash. cc) (refl, refl) h

  -- it tells nobody, and nobody joins
  entered_leaves : (c c' : CoreState (Kept V)) (d' : DeskState (Slot V)) (wait : Bool) (reply : Reply)
      (given : Option (Slot V)) → Serves c.desk None given reply d' → LeavesQueue c c'
      → Makes core_desk c.desk (making (Step.Enter wait) reply given) d'
      → Makes own_desk c (making (Step.Enter wait) reply given) (record c' { desk = d' })
  entered_leaves c c' d' wait (Reply.Object left) (Some slot) serves same h = (h.0, (h.1, same.0, same.1))
  entered_leaves c c' d' wait Reply.Create None serves same h = (h.0, (h.1, same.0, same.1))
  entered_leaves c c' d' wait Reply.Going None serves same h = (h.0, (h.1, same.0, same.1))
  entered_leaves c c' d' wait Reply.Exhausted None serves same h = (h.0, (h.1, same.0, same.1))
  entered_leaves c c' d' wait _ (Some slot) serves same h = absurd serves
  entered_leaves c c' d' wait _ None serves same h = absurd serves

  entering_leaves : (c c' : CoreState (Kept V)) (wait : Bool) (reply : Reply) (given : Option (Slot V))
      → Serves c.desk None given reply c'.desk
      → Makes own_desk c (making (Step.Enter wait) reply given) c' → LeavesQueue c c'
  entering_leaves c c' wait (Reply.Object left) (Some slot) serves h = (h.1.1, h.1.2)
  entering_leaves c c' wait Reply.Create None serves h = (h.1.1, h.1.2)
  entering_leaves c c' wait Reply.Going None serves h = (h.1.1, h.1.2)
  entering_leaves c c' wait Reply.Exhausted None serves h = (h.1.1, h.1.2)
  entering_leaves c c' wait _ (Some slot) serves h = absurd serves
  entering_leaves c c' wait _ None serves h = absurd serves

module _ {V E C R S F A : Type 0} (may : May V E C R S F A) (runtime : Option Runtime) (hooks : HookLists F A)
    (now : Moment) (timeouts : Timeouts) (stage' : Stage V C R S) (turn : Turn V E) where
  abbrev Steps : Type 0
  Steps = List (Advanced (CoreState (Kept V)) V C R S)

  abbrev DeskSteps : Type 0
  DeskSteps = List (Advanced (DeskState (Slot V)) V C R S)

  abbrev at_desk : Advanced (CoreState (Kept V)) V C R S → Advanced (DeskState (Slot V)) V C R S
  at_desk x = record { made = x.made; desk = x.desk.desk; stage = x.stage }

  advances_at_desk : (c c' : CoreState (Kept V)) (stage : Stage V C R S) (steps : Steps)
      → Advances own_desk may runtime hooks now timeouts c stage steps c' stage' turn
      → Advances core_desk may runtime hooks now timeouts c.desk stage (map at_desk steps) c'.desk stage' turn
  advances_at_desk c c' stage [] h = absurd h
  advances_at_desk c c' stage (x ∷ []) h =
      (makes_at_desk c x.desk x.made h.0, h.1, h.2, ap (λ (b : CoreState (Kept V)). b.desk) h.3, h.4)
  advances_at_desk c c' stage (x ∷ y ∷ zs) h =
      (makes_at_desk c x.desk x.made h.0, h.1, advances_at_desk x.desk c' x.stage (y ∷ zs) h.2)

  -- so a poll over a core is one over the desk machine
  pub polls_at_desk : (c c' : CoreState (Kept V)) (stage : Stage V C R S)
      → PollsOver own_desk may runtime hooks now timeouts c stage c' stage' turn
      → PollsOver core_desk may runtime hooks now timeouts c.desk stage c'.desk stage' turn
  polls_at_desk c c' stage (steps, ran) = (map at_desk steps, advances_at_desk c c' stage steps ran)

  -- past the queue it leaves that
  advances_leaves : (c c' : CoreState (Kept V)) (stage : Stage V C R S) (steps : Steps) → StandsPast stage
      → Advances own_desk may runtime hooks now timeouts c stage steps c' stage' turn → LeavesQueue c c'
  advances_leaves c c' stage [] past h = absurd h
  advances_leaves c c' stage (x ∷ []) past h =
      let step = stays_past may runtime hooks now timeouts c.desk x.desk.desk stage x.made x.stage turn past
      (makes_at_desk c x.desk x.made h.0) h.1 in
      leaves_on c x.desk c' (leaves_past c x.desk x.made step.0 h.0) (leaves_same x.desk c' h.3)
  advances_leaves c c' stage (x ∷ y ∷ zs) past h =
      let step = stays_past may runtime hooks now timeouts c.desk x.desk.desk stage x.made x.stage Turn.More past
      (makes_at_desk c x.desk x.made h.0) h.1 in
      leaves_on c x.desk c' (leaves_past c x.desk x.made step.0 h.0)
      (advances_leaves x.desk c' x.stage (y ∷ zs) step.1 h.2)

  pub polls_leave : (c c' : CoreState (Kept V)) (stage : Stage V C R S) → StandsPast stage
      → PollsOver own_desk may runtime hooks now timeouts c stage c' stage' turn → LeavesQueue c c'
  polls_leave c c' stage past (steps, ran) = advances_leaves c c' stage steps past ran

  -- the first advance of a new get, when a place is free
  first_leaves : (c d : CoreState (Kept V)) (made : Made V) (next : Stage V C R S) (came : Turn V E)
      → c.desk.is_open ≡ true → places c.desk < c.desk.limit
      → Makes own_desk c made d → AdvancesFrom may runtime hooks now timeouts Unpolled made next came
      → LeavesQueue c d × StandsPast next
  first_leaves c d no_step next came opens free makes h =
      (leaves_same c d makes, stands_past next _ h.1 tt)
  first_leaves c d (making (Step.Enter wait) reply given) next came opens free makes h =
      let serves = entered_free c.desk d.desk wait reply given opens free makes.1.0 in (
        entering_leaves c d wait reply given serves makes,
        served_past c.desk d.desk None _ reply given next came serves h.2,
      )
  first_leaves c d _ next came opens free makes h = absurd h

  pub first_poll_leaves : (c c' : CoreState (Kept V)) → c.desk.is_open ≡ true → places c.desk < c.desk.limit
      → PollsOver own_desk may runtime hooks now timeouts c Unpolled c' stage' turn → LeavesQueue c c'
  first_poll_leaves c c' opens free (steps, ran) = by_steps steps ran
    where
      by_steps : (steps : Steps) → Advances own_desk may runtime hooks now timeouts c Unpolled steps c' stage' turn
          → LeavesQueue c c'
      by_steps [] h = absurd h
      by_steps (x ∷ []) h =
          leaves_on c x.desk c' (first_leaves c x.desk x.made x.stage turn opens free h.0 h.1).0
          (leaves_same x.desk c' h.3)
      by_steps (x ∷ y ∷ zs) h =
          let first = first_leaves c x.desk x.made x.stage Turn.More opens free h.0 h.1 in
          leaves_on c x.desk c' first.0 (advances_leaves x.desk c' x.stage (y ∷ zs) first.1 h.2)

  -- and a poll over the desk machine is one over a core, if that leaves its queue

  module _ (c' : CoreState (Kept V)) where
    abbrev over : Advanced (DeskState (Slot V)) V C R S → Advanced (CoreState (Kept V)) V C R S
    over x = record { made = x.made; desk = record c' { desk = x.desk }; stage = x.stage }

    advances_over : (d : DeskState (Slot V)) (stage : Stage V C R S) (steps : DeskSteps) → StandsPast stage
        → Advances core_desk may runtime hooks now timeouts d stage steps c'.desk stage' turn
        → Advances own_desk may runtime hooks now timeouts (record c' { desk = d }) stage
        (map over steps) c' stage' turn
    advances_over d stage [] past h = absurd h
    advances_over d stage (x ∷ []) past h =
        let step = stays_past may runtime hooks now timeouts d x.desk stage x.made x.stage turn past h.0 h.1 in (
          makes_here c' d x.desk x.made step.0 h.0,
          h.1,
          h.2,
          ap (λ (b : DeskState (Slot V)). record c' { desk = b }) h.3,
          h.4,
        )
    advances_over d stage (x ∷ y ∷ zs) past h =
        let step = stays_past may runtime hooks now timeouts d x.desk stage x.made x.stage Turn.More past h.0 h.1 in
        (makes_here c' d x.desk x.made step.0 h.0, h.1, advances_over x.desk x.stage (y ∷ zs) step.1 h.2)

    -- what the first advance has to be for that
    abbrev Begins : CoreState (Kept V) → Stage V C R S → Type 0
    Begins c stage =
        (d : DeskState (Slot V)) (made : Made V) (next : Stage V C R S) (came : Turn V E)
        → Makes core_desk c.desk made d → AdvancesFrom may runtime hooks now timeouts stage made next came
        → Makes own_desk c made (record c' { desk = d }) × StandsPast next

    polls_over : (c : CoreState (Kept V)) (stage : Stage V C R S) → Begins c stage
        → PollsOver core_desk may runtime hooks now timeouts c.desk stage c'.desk stage' turn
        → PollsOver own_desk may runtime hooks now timeouts c stage c' stage' turn
    polls_over c stage begins (steps, ran) = by_steps steps ran
      where
        by_steps : (steps : DeskSteps)
            → Advances core_desk may runtime hooks now timeouts c.desk stage steps c'.desk stage' turn
            → PollsOver own_desk may runtime hooks now timeouts c stage c' stage' turn
        by_steps [] h = absurd h
        by_steps (x ∷ []) h =
            let first = begins x.desk x.made x.stage turn h.0 h.1 in
            (over x ∷ [], (first.0, h.1, h.2, ap (λ (b : DeskState (Slot V)). record c' { desk = b }) h.3, h.4))
        by_steps (x ∷ y ∷ zs) h =
            let first = begins x.desk x.made x.stage Turn.More h.0 h.1 in
            (over x ∷ map over (y ∷ zs), (first.0, h.1, advances_over x.desk x.stage (y ∷ zs) first.1 h.2))

    -- a new get, when a place is free and its wait lacks no runtime
    pub first_poll_over : (c : CoreState (Kept V)) → c.desk.is_open ≡ true → places c.desk < c.desk.limit
        → cannot_wait runtime timeouts.wait ≡ false → LeavesQueue c c'
        → PollsOver core_desk may runtime hooks now timeouts c.desk Unpolled c'.desk stage' turn
        → PollsOver own_desk may runtime hooks now timeouts c Unpolled c' stage' turn
    first_poll_over c opens free waits same = polls_over c Unpolled begins
      where
        begins : Begins c Unpolled
        begins d no_step next came makes h = absurd (let lacks = h.0 in cc)
        begins d (making (Step.Enter wait) reply given) next came makes h =
            let serves = entered_free c.desk d wait reply given opens free makes.1 in (
              entered_leaves c c' d wait reply given serves same makes,
              served_past c.desk d None _ reply given next came serves h.2,
            )
        begins d _ next came makes h = absurd h

    -- a creation that begins, if it is not pending
    pub creation_poll_over : (c : CoreState (Kept V)) → AtOnce may → LeavesQueue c c'
        → PollsOver core_desk may runtime hooks now timeouts c.desk (Creating None None) c'.desk stage' turn
        → PollsOver own_desk may runtime hooks now timeouts c (Creating None None) c' stage' turn
    creation_poll_over c once same = polls_over c (Creating None None) begins
      where
        answered : (deadline : Option Moment) (x : Poll (Result V E) × C) (made : Made V) (next : Stage V C R S)
            (came : Turn V E) → HasAnswer x → AfterCreation now deadline x made next came → made ≢ no_step
        answered deadline (Poll.Ready (Ok value), s) (making step reply given) next came answer h none = cc
        answered deadline (Poll.Ready (Err e), s) (making step reply given) next came answer h none = cc
        answered deadline (Poll.Pending, s) made next came answer h none = absurd answer
        answered deadline _ _ next came answer h none = absurd h

        begun : (made : Made V) (next : Stage V C R S) (came : Turn V E)
            → AdvancesCreation may runtime now timeouts.create None None made next came → made ≢ no_step
        begun made next came (inl h) none = absurd (let is = h.1.1 in cc)
        begun made next came (inr h) none =
            answered _ h.1.0 made next came (creation_answered may once h.1.0 h.1.1.0) h.1.1.1 none

        begins : Begins c (Creating None None)
        begins d made next came makes h =
            let past = creation_past may runtime hooks now timeouts timeouts.create None None made next came h in
            (makes_past c c' d made past.0 (begun made next came h) same makes, past.1)
