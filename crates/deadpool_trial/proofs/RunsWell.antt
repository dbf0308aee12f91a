-- What is true of every state of every run of a managed pool that begins well, and of each two neighbours.
use Rattle.deadpool_trial.proofs.Basics.{◌≡◌, ℕ, ◌≤◌, List, false, max, arith, inl, inr, refl, cases_Bool, has_number}
use Rattle.deadpool_trial.proofs.Basics.{all_states, Each, Neighbours}
pub use Rattle.deadpool_trial.proofs.Words.{WithinReach, EachReply, Moment, May, Pool, size, reach, one_step, PoolRuns}
pub use Rattle.deadpool_trial.proofs.Words.{numbers, RunInvariant, Succeeds, sets_limit}
pub use Rattle.deadpool_trial.proofs.Words.{NoneReturns, EachState, EachStep}
pub use Rattle.deadpool_trial.proofs.Words.{EachLater, EachMove, EndsWell, StaysWithin, Move, Reply, may, may_leave}
pub use Rattle.deadpool_trial.proofs.Words.{IsEmptyIfClosed, KeepsMinIdle, LeavesEnough, HasFewIdle, CountsOn}
pub use Rattle.deadpool_trial.proofs.Words.{OthersStayInPool, OthersStayQueued, OthersStand, IsNumbered, IsOutIfGiven}
pub use Rattle.deadpool_trial.proofs.Words.{IsIdleIfKept, IsListedOnce, MarksQueued, KeepsQueue}
use Rattle.deadpool_trial.specs.declared.moves.Move.TheVariants as move
use Rattle.deadpool_trial.proofs.Computations.{Always-more}
use Rattle.deadpool_trial.proofs.AllMoves.{Moved, moved_has}
use Rattle.deadpool_trial.proofs.Runs.{Each-more, each_of, Neighbours-more, Later-of, Later-more, makes_next}
use Rattle.deadpool_trial.proofs.Runs.{makes_reply, runs_have}
pub use Rattle.deadpool_trial.proofs.Well.{WellAfter, well_after, moved_well, others_stay, others_stay_queued}
pub use Rattle.deadpool_trial.proofs.Well.{opened_well}

module _ {V C R S F A : Type 0} where
  -- what is gone stays gone, and more numbers were given
  abbrev Leaves : Pool V C R S F A → Pool V C R S F A → Type 0
  Leaves p q = (p.next ≤ q.next) × NoneReturns p q

  leaves_on : (p q r : Pool V C R S F A) → Leaves p q → Leaves q r → Leaves p r
  leaves_on p q r h k = (omega (arith, h.0, k.0), λ n given gone. k.1 n (omega (arith, given, h.0)) (h.1 n given gone))

  succeeds_leaves : (p q : Pool V C R S F A) → Succeeds p q → Leaves p q
  succeeds_leaves p q s =
      let none : NoneReturns p q = λ n given gone. elim (cases_Bool (has_number n (numbers q))) [
        | inl back ↦ let new = s.counted.new n back gone in absurd (omega (arith, given, new))
        | inr none ↦ none
      ] in
      (s.counted.next, none)

module _ {V E C R S F A : Type 0} (may : May V E C R S F A) where
  -- every state is well, and each succeeds the one before it and is within its reach
  runs_well : (moves : List (Move V)) (p after : Pool V C R S F A) (passed : List (List (Pool V C R S F A)))
      (answers : List (Reply V E)) → RunInvariant p → PoolRuns may p moves passed answers after
      → Each RunInvariant (all_states p passed) × Neighbours (λ q r. Succeeds q r
      × WithinReach q r) (all_states p passed)
      × RunInvariant after
  runs_well moves p after passed answers w ran =
      runs_have may (λ m. Unit {0}) RunInvariant (λ q r. Succeeds q r × WithinReach q r) (λ n now meant. tt)
      (λ m q meant h. Always-more (WellAfter q)
      (λ (x : Reply V E × Pool V C R S F A). RunInvariant x.1 × (Succeeds q x.1 × WithinReach q x.1))
      (λ x k. (k.0, (k.1, k.2))) (one_step m q) (moved_well E m q h))
      moves p after passed answers (each_of (λ m. Unit {0}) (λ m. tt) moves) w ran

  -- what follows for a pool that is well
  pub each_state : (P : Pool V C R S F A → Type 0) → ((q : Pool V C R S F A) → RunInvariant q → P q) → EachState may P
  each_state P implies moves p after passed answers w ran =
      Each-more RunInvariant P implies (all_states p passed) (runs_well moves p after passed answers w ran).0

  -- what follows for one that succeeds another, and is within its reach
  pub each_step : (P : Pool V C R S F A → Pool V C R S F A → Type 0)
      → ((q r : Pool V C R S F A) → Succeeds q r × WithinReach q r → P q r) → EachStep may P
  each_step P implies moves p after passed answers w ran =
      Neighbours-more (λ q r. Succeeds q r × WithinReach q r) P implies (all_states p passed)
      (runs_well moves p after passed answers w ran).1

  -- What each move has holds of the states that one move passes, if an advance within a poll is as any other.
  pub each_move : (P : Move V → Pool V C R S F A → Pool V C R S F A → Type 0)
      → ((n : ℕ) (now : Moment) (q r : Pool V C R S F A) → P (move.Advance n now) q r → P (move.Poll n now) q r)
      → ((m : Move V) (p : Pool V C R S F A) (x : Reply V E × Pool V C R S F A) → RunInvariant p → RunInvariant x.1
      → Moved p m x
      → P m p x.1) → EachMove may P
  each_move P polls keeps m p passed answer w made =
      makes_next may (λ l. (q r : Pool V C R S F A) → P l q r → P m q r) RunInvariant (P m)
      (λ n now implies q r h. implies q r (polls n now q r h))
      (λ l q implies h.
      Always-more (Moved q l) (λ (x : Reply V E × Pool V C R S F A). RunInvariant x.1 × P m q x.1)
      (λ x k. let after = (well_after l q x h k).0 in (after, implies q x.1 (keeps l q x h after k))) (one_step l q)
      (moved_has E q h.lawful l))
      m p passed answer (λ q r h. h) w made

  pub each_reply : (P : Move V → Reply V E → Pool V C R S F A → Type 0)
      → ((m : Move V) (p : Pool V C R S F A) (x : Reply V E × Pool V C R S F A) → Moved p m x → P m x.0 x.1)
      → EachReply may P
  each_reply P has m p passed answer w made =
      makes_reply may (λ l. Unit {0}) RunInvariant (λ q r. Unit {0}) (λ n now meant. tt)
      (λ l q meant h. Always-more (WellAfter q) (λ (x : Reply V E × Pool V C R S F A). RunInvariant x.1 × Unit {0})
      (λ x k. (k.0, tt)) (one_step l q) (moved_well E l q h)) P
      (λ l q h. Always-more (Moved q l) (λ (x : Reply V E × Pool V C R S F A). P l x.0 x.1) (has l q) (one_step l q)
      (moved_has E q h.lawful l)) m p passed answer tt w made

  pub ends_well : EndsWell may
  ends_well moves p after passed answers w ran = (runs_well moves p after passed answers w ran).2

  -- a number that is gone stays gone from each state to each later one
  pub none_returns : EachLater may NoneReturns
  none_returns moves p after passed answers w ran =
      let steps = each_step Leaves (λ q r s. succeeds_leaves q r s.0) moves p after passed answers w ran in
      Later-more Leaves NoneReturns (λ q r k. k.1) (all_states p passed)
      (Later-of Leaves leaves_on (all_states p passed) steps)

  -- if a run begins within its limit, and sets none, the size stays within it
  pub stays_within : StaysWithin may
  stays_within moves p after passed answers w within kept ran =
      let have = runs_have may (λ m. sets_limit m ≡ false) (λ q. RunInvariant q × (reach q ≤ q.limit)) (λ q r. Unit {0})
      (λ n now same. refl)
      (λ m q same g. Always-more (Moved q m)
      (λ (x : Reply V E × Pool V C R S F A). (RunInvariant x.1 × (reach x.1 ≤ x.1.limit)) × Unit {0})
      (λ x h.
      let next = well_after m q x g.0 h in
      let before : reach q ≤ q.limit = g.1 in
      let reached : reach x.1 ≤ max x.1.limit (reach q) = next.2 in
      let limit : x.1.limit ≡ q.limit = h.1.limit same in
      ((next.0, omega (arith, before, reached, limit)), tt)) (one_step m q) (moved_has E q g.0.lawful m))
      moves p after passed answers kept (w, within) ran in
      Each-more (λ q. RunInvariant q × (reach q ≤ q.limit)) (λ q. size q ≤ q.limit)
      (λ q g. let all = g.1 in omega (arith, all)) (all_states p passed) have.0
