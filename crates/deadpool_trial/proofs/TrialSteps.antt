-- What a step of a trial keeps: the counts, and the laws that each move keeps.
use Rattle.deadpool_trial.proofs.Basics.{◌∙◌, option_map, slice_get-map, ◌≡◌, ◌≢◌, ℕ, ◌≤◌, List, [], ◌∷◌, Bool, true}
use Rattle.deadpool_trial.proofs.Basics.{false, nat_lt, ◌==◌, length, map, set, set-set, get-set_same, Option, Some}
use Rattle.deadpool_trial.proofs.Basics.{None, Ok, Err, refl, sym, ap, arith, slice_get, nat_tests}
use Rattle.deadpool_trial.proofs.Basics.{length-set_n as length-set, last_of, Gives, Always-Gives}
use Rattle.deadpool_trial.proofs.Words.{Kept, party_of, by_party, cancel, advance, Makes, AdvancesFrom, Advanced}
use Rattle.deadpool_trial.proofs.Words.{Advances, PollsOver, Moment, Timeouts, may, DeskState, Does, LeavesInHand}
use Rattle.deadpool_trial.proofs.Words.{Getting, Made, CancelsFrom, Pool, find_slot, without_slot, one_step, Polls}
use Rattle.deadpool_trial.proofs.Words.{is_more, RunInvariant, TrialInvariant, given}
use Rattle.deadpool_trial.proofs.Words.{reply_to, reply_to_back, Slot, ManagerOf}
use Rattle.deadpool_trial.proofs.Words.{SyncHookOf, AsyncHookOf, Stage, Turn, Step, DeskReply, Move, Reply, CoreState}
use Rattle.deadpool_trial.proofs.Words.{core_desk, own_desk, makes_at_desk, polls_at_desk, Setup, image, get_at}
use Rattle.deadpool_managed.specs.declared.get.Turn.TheVariants as turn
use Rattle.deadpool_trial.specs.declared.moves.Move.TheVariants as move
use Rattle.deadpool_trial.specs.declared.moves.Reply.TheVariants as reply
use Rattle.deadpool_trial.proofs.Simulation.{get_advanced}
use Rattle.deadpool_trial.proofs.Cancels.{get_cancelled}
use Rattle.deadpool_trial.proofs.OutObjects.{backs}
use Rattle.deadpool_trial.proofs.Well.{WellAfter, moved_well}
use Rattle.deadpool_trial.proofs.Runs.{polls_more}
use Rattle.deadpool_trial.proofs.DeskImage.{Gives-same}

-- whether a pool has a handle
pub no_handle : (b : Bool) (n : ℕ) → b ≡ nat_lt 0 n → b ≡ false → (n == 0) ≡ true
no_handle b n is none = grind (arith, nat_tests)

pub some_handle : (b : Bool) (n : ℕ) → b ≡ nat_lt 0 n → b ≡ true → (n == 0) ≡ false
some_handle b n is some = grind (arith, nat_tests)

-- the objects out have room if the parties have theirs
pub out_fits : {V C R S : Type 0} (core : DeskState (Slot V)) (gets : List (Option (Getting V C R S))) (n : ℕ)
    (x : Option (Getting V C R S)) (out : List (Slot V)) (len most capacity : ℕ)
    → TrialInvariant core (set gets n x) out → len ≡ length gets → len ≤ most → most ≤ capacity → length out ≤ capacity
out_fits core gets n x out len most capacity k e l c =
    omega (arith, k.room, length-set gets n x, e, l, c)

-- a turn with nothing more to do ends a poll
ends_poll : {V E : Type 0} (t : Turn V E) → t ≢ turn.More → is_more (reply_to t) ≡ false
ends_poll turn.More more = absurd (more refl)
ends_poll turn.Pending more = refl
ends_poll (turn.Done (Ok slot)) more = refl
ends_poll (turn.Done (Err cause)) more = refl

-- the party n of the get that is there
party_here : {V C R S : Type 0} (gets : List (Option (Getting V C R S))) (n : ℕ) (get : Option (Getting V C R S))
    → slice_get gets n ≡ Some get → slice_get (map party_of gets) n ≡ Some (party_of get)
party_here gets n get here = slice_get-map party_of gets n ∙ ap (option_map party_of) here

module _ {M V E C R S F A : Type 0} (m : ManagerOf M V E C R) (f : SyncHookOf F M V E C R)
    (a : AsyncHookOf A M S V E C R) (manager : M) where
  -- what a move leads to is well
  pub leads_to_well : (mv : Move V) (p q : Pool V C R S F A) (answer : Reply V E) → RunInvariant p
      → Gives (may m f a manager) (one_step mv p) (answer, q) → RunInvariant q
  leads_to_well mv p q answer well given =
      (Always-Gives (WellAfter p) (may m f a manager) (one_step mv p) (answer, q) (moved_well E mv p well) given).0

  module _ (setup : Setup M F A V E C R S) (n : ℕ) (now : Moment) (own : Timeouts) (out : List (Slot V)) where
    -- the pool after a turn of the get that the party n has
    abbrev after : DeskState (Slot V) → List (Option (Getting V C R S)) → Stage V C R S → Turn V E → Pool V C R S F A
    after core gets s t = image setup core (set gets n (get_at own s)) (given t out)

    -- one advance of it
    advance_leads : (core core' : DeskState (Slot V)) (gets : List (Option (Getting V C R S))) (old s : Stage V C R S)
        (t : Turn V E) (made : Made V) → TrialInvariant core gets out
        → RunInvariant (image setup core gets out) → slice_get gets n ≡ Some (get_at own old)
        → Makes core_desk core made core'
        → AdvancesFrom (may m f a manager) setup.environment.runtime setup.environment.hooks now own old made s t
        → Gives (may m f a manager) (one_step (move.Advance n now) (image setup core gets out)) (
          reply_to t,
          after core' gets s t,
        )
        × TrialInvariant core' (set gets n (get_at own s)) (given t out) × RunInvariant (after core' gets s t)
    advance_leads core core' gets old s t made counted well here makes advances =
        let all = get_advanced (may m f a manager) (λ found. tt) setup n now core core' gets out own old s t made
        counted well.lawful.nobody_waits here makes advances in
        let pool = image setup core gets out in
        let gives = Gives-same (may m f a manager) _ _ _
        (ap (λ y. by_party y (advance n now) pool) (party_here gets n (get_at own old) here)) all.0 in
        (gives, all.1, leads_to_well (move.Advance n now) _ _ _ well gives)

    -- a poll of it, by the states that its advances pass
    poll_leads : (core core' : DeskState (Slot V)) (gets : List (Option (Getting V C R S))) (old s : Stage V C R S)
        (t : Turn V E) (steps : List (Advanced (DeskState (Slot V)) V C R S))
        → TrialInvariant core gets out → RunInvariant (image setup core gets out) → slice_get gets n
        ≡ Some (get_at own old)
        → Advances core_desk (may m f a manager) setup.environment.runtime setup.environment.hooks now own core old
        steps core' s t
        → ((passed : List (Pool V C R S F A))
        × Polls (may m f a manager) n now (image setup core gets out) passed (reply_to t)
        × (after core' gets s t ≡ last_of (image setup core gets out) passed))
        × TrialInvariant core' (set gets n (get_at own s)) (given t out) × RunInvariant (after core' gets s t)
    poll_leads core core' gets old s t [] counted well here ran = absurd ran
    poll_leads core core' gets old s t (x ∷ []) counted well here ran =
        let all = advance_leads core x.desk gets old x.stage t x.made counted well here ran.0 ran.1 in
        rw (ran.3, ran.4) ((_ ∷ [], (all.0, ends_poll t ran.2), refl), all.1, all.2)
    poll_leads core core' gets old s t (x ∷ y ∷ zs) counted well here ran =
        let all = advance_leads core x.desk gets old x.stage turn.More x.made counted well here ran.0 ran.1 in
        let later = set gets n (get_at own x.stage) in
        let rest = rw (set-set gets n (get_at own x.stage) (get_at own s)) at
        (poll_leads x.desk core' later x.stage s t (y ∷ zs) all.1 all.2 (get-set_same gets n _ _ here) ran.2) in (
          (_ ∷ rest.0.0, polls_more (may m f a manager) n now _ _ (reply_to t) rest.0.0 all.0 rest.0.1, rest.0.2),
          rest.1,
          rest.2,
        )

  module _ (setup : Setup M F A V E C R S) (core core' : CoreState (Kept V)) (gets : List (Option (Getting V C R S)))
      (out : List (Slot V)) (counted : TrialInvariant core.desk gets out)
      (well : RunInvariant (image setup core.desk gets out)) (n : ℕ) where
    abbrev pool : Pool V C R S F A
    pool = image setup core.desk gets out

    -- A get that is there, and keeps its timeouts
    module _ (now : Moment) (g g' : Getting V C R S) (t : Turn V E) (here : slice_get gets n ≡ Some (Some g))
        (same : g'.timeouts ≡ g.timeouts) where
      still : record g { stage = g'.stage } ≡ g'
      still = ap (λ (ts : Timeouts). let h : Getting V C R S = record { timeouts = ts; stage = g'.stage } in h)
          (sym same)

      -- is advanced
      pub advanced : (made : Made V) → Makes own_desk core made core'
          → AdvancesFrom (may m f a manager) setup.environment.runtime setup.environment.hooks now g.timeouts g.stage
          made g'.stage t
          → Gives (may m f a manager) (one_step (move.Advance n now) (image setup core.desk gets out)) (
            reply_to t,
            image setup core'.desk (set gets n (Some g')) (given t out),
          )
          × TrialInvariant core'.desk (set gets n (Some g')) (given t out)
          × RunInvariant (image setup core'.desk (set gets n (Some g')) (given t out))
      advanced made makes advances =
          rw still at
          (advance_leads setup n now g.timeouts out core.desk core'.desk gets g.stage g'.stage t made counted well
          here (makes_at_desk core core' made makes) advances)

      -- or polled
      pub polled : PollsOver own_desk (may m f a manager) setup.environment.runtime setup.environment.hooks now
          g.timeouts core g.stage core' g'.stage t
          → ((passed : List (Pool V C R S F A))
          × Polls (may m f a manager) n now (image setup core.desk gets out) passed (reply_to t)
          × (image setup core'.desk (set gets n (Some g')) (given t out)
          ≡ last_of (image setup core.desk gets out) passed))
          × TrialInvariant core'.desk (set gets n (Some g')) (given t out)
          × RunInvariant (image setup core'.desk (set gets n (Some g')) (given t out))
      polled ran =
          let steps =
          polls_at_desk (may m f a manager) setup.environment.runtime setup.environment.hooks now g.timeouts g'.stage
          t core core' g.stage ran in
          rw still at
          (poll_leads setup n now g.timeouts out core.desk core'.desk gets g.stage g'.stage t steps.0 counted well
          here steps.1)

    -- the party n is cancelled
    pub cancelled : (g : Getting V C R S) (made : Made V) → slice_get gets n ≡ Some (Some g)
        → Makes own_desk core made core' → CancelsFrom (may m f a manager) g.stage made
        → Gives (may m f a manager) (one_step (move.Cancel n) (image setup core.desk gets out)) (
          reply.Cancelled,
          image setup core'.desk (set gets n None) out,
        )
        × TrialInvariant core'.desk (set gets n None) out × RunInvariant (image setup core'.desk (set gets n None) out)
    cancelled g made here makes gives_back =
        let all = get_cancelled (may m f a manager) setup n core.desk core'.desk gets out g.timeouts counted
        well.lawful.nobody_waits g.stage made here (makes_at_desk core core' made makes) gives_back in
        let done = Gives-same (may m f a manager) _ _ _
        (ap (λ y. by_party y (cancel n) pool) (party_here gets n (Some g) here)) all.0 in
        (done, all.1, leads_to_well (move.Cancel n) _ _ _ well done)

    -- the object with the number n has come back
    pub came_back : (slot : Slot V) (r : DeskReply) (hand : Option (Slot V)) (answer : Reply V E)
        → find_slot n out ≡ Some slot → Does core.desk Step.Back (Some slot) r core'.desk
        → LeavesInHand r (Some slot) hand
        → Gives (may m f a manager) (reply_to_back r hand) answer
        → Gives (may m f a manager) (one_step (move.Back n) (image setup core.desk gets out)) (
          answer,
          image setup core'.desk gets (without_slot n out),
        )
        × TrialInvariant core'.desk gets (without_slot n out)
        × RunInvariant (image setup core'.desk gets (without_slot n out))
    came_back slot r hand answer here does left given =
        let all = backs (may m f a manager) setup core.desk core'.desk gets out n slot counted here r hand answer does
        left given in
        (all.0, all.1, leads_to_well (move.Back n) _ _ _ well all.0)
