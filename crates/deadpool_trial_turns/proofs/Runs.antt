-- Runs, move by move: one that waits in the end waited all along, and each return has left one fewer ahead of it.
use Rattle.deadpool_trial.proofs.Basics.{◌≡◌, ℕ, ◌≤◌, List, [], ◌∷◌, ◌++◌, true, false, ◌||◌, max, refl, sym}
use Rattle.deadpool_trial.proofs.Basics.{◌∙◌, arith, inl, inr, subst, cases_Bool, has_number, has_number-append, Gives}
use Rattle.deadpool_trial.proofs.Basics.{Always-Gives, last_of, Each}
use Rattle.deadpool_trial.proofs.Words.{Moment, May, Pool, one_step, Polls, MakesMove, PoolRuns, reach}
use Rattle.deadpool_trial.proofs.Words.{RunInvariant, sets_limit}
use Rattle.deadpool_trial.specs.declared.moves.Move.{Move}
use Rattle.deadpool_trial.specs.declared.moves.Move.TheVariants as move
use Rattle.deadpool_trial.specs.declared.moves.Reply.{Reply}
use Rattle.deadpool_trial.specs.declared.moves.Reply.TheVariants as reply
use Rattle.deadpool_trial.proofs.AllMoves.{Moved, moved_has}
use Rattle.deadpool_trial.proofs.Runs.{all_states-flat, flat}
use Rattle.deadpool_trial.proofs.Well.{well_after}
use Rattle.deadpool_trial_turns.specs.Turns.{EachIsGrantedInTurn, IsInQueue, returned, returns_in}
use Rattle.deadpool_trial_turns.proofs.AllMoves.{Nearer, moved_nearer}
use Rattle.deadpool_trial_turns.proofs.Waiting.{Comes, ahead-at, comes_same, comes_then}

-- what holds of each of a list and of some more holds of the rest
each_rest : {X : Type 0} (P : X → Type 0) (xs ys : List X) → Each P (xs ++ ys) → Each P ys
each_rest P [] ys h = h
each_rest P (x ∷ xs) ys h = each_rest P xs ys h.1

each_first : {X : Type 0} (P : X → Type 0) (xs ys : List X) → Each P (xs ++ ys) → Each P xs
each_first P [] ys h = tt
each_first P (x ∷ xs) ys h = (h.0, each_first P xs ys h.1)

-- and of the last of them
each_last : {X : Type 0} (P : X → Type 0) (x : X) (xs : List X) → P x → Each P xs → P (last_of x xs)
each_last P x [] here h = here
each_last P x (y ∷ ys) here h = each_last P y ys h.0 h.1

module _ {V E C R S F A : Type 0} (may : May V E C R S F A) (n : ℕ) where
  -- it is well, within its limit
  abbrev Good : Pool V C R S F A → Type 0
  Good p = RunInvariant p × (reach p ≤ p.limit)

  -- so is the pool after a move that sets no limit, and who waits then is nearer
  abbrev Leads : ℕ → Pool V C R S F A → Pool V C R S F A → Type 0
  Leads count p q = Good q × Comes count n p.waiting q.waiting

  step_leads : (m : Move V) (p q : Pool V C R S F A) (answer : Reply V E) → sets_limit m ≡ false → Good p
      → IsInQueue n p → Gives may (one_step m p) (answer, q) → Leads (returned m answer) p q
  step_leads m p q answer sets_none good queued given =
      let moved = Always-Gives (Moved p m) may (one_step m p) (answer, q) (moved_has E p good.0.lawful m) given in
      let next = well_after m p (answer, q) good.0 moved in
      let before : reach p ≤ p.limit = good.1 in
      let reached : reach q ≤ max q.limit (reach p) = next.2 in
      let limit : q.limit ≡ p.limit = moved.1.limit sets_none in (
        (next.0, omega (arith, before, reached, limit)),
        Always-Gives (Nearer E n p good.0.lawful queued.1 queued.0 good.1 m) may (one_step m p) (answer, q)
            (moved_nearer E n p good.0.lawful queued.1 queued.0 good.1 m) given,
      )

  -- the advances of a poll
  polls_lead : (k : ℕ) (now : Moment) (p : Pool V C R S F A) (passed : List (Pool V C R S F A)) (answer : Reply V E)
      → Good p → IsInQueue n p → Each (IsInQueue n) passed → Polls may k now p passed answer
      → Leads 0 p (last_of p passed)
  polls_lead k now p [] answer good here queued ran = absurd ran
  polls_lead k now p (s ∷ []) answer good here queued ran =
      step_leads (move.Advance k now) p s answer refl good here ran.0
  polls_lead k now p (s ∷ t ∷ ss) answer good here queued ran =
      let next = step_leads (move.Advance k now) p s reply.More refl good here ran.0 in
      let rest = polls_lead k now s (t ∷ ss) answer next.0 queued.0 queued.1 ran.1 in
      (rest.0, comes_then 0 0 n p.waiting s.waiting (last_of s (t ∷ ss)).waiting next.1 rest.1)

  one_leads : (m : Move V) (p q : Pool V C R S F A) (passed : List (Pool V C R S F A)) (answer : Reply V E)
      → sets_limit m ≡ false → Good p → IsInQueue n p → passed ≡ q ∷ [] → Gives may (one_step m p) (answer, q)
      → Leads (returned m answer) p (last_of p passed)
  one_leads m p q passed answer sets_none good here is given =
      rw is (step_leads m p q answer sets_none good here given)

  move_leads : (m : Move V) (p : Pool V C R S F A) (passed : List (Pool V C R S F A)) (answer : Reply V E)
      → sets_limit m ≡ false → Good p → IsInQueue n p → Each (IsInQueue n) passed → MakesMove may p m passed answer
      → Leads (returned m answer) p (last_of p passed)
  move_leads (move.Poll k now) p passed answer sets_none good here queued ran =
      polls_lead k now p passed answer good here queued ran
  move_leads m p passed answer sets_none good here queued ran =
      one_leads m p ran.0 passed answer sets_none good here ran.1 ran.2

  -- a whole run
  run_leads : (moves : List (Move V)) (p after : Pool V C R S F A) (passed : List (List (Pool V C R S F A)))
      (answers : List (Reply V E)) → Each (λ m. sets_limit m ≡ false) moves → Good p → IsInQueue n p
      → Each (IsInQueue n) (flat passed) → PoolRuns may p moves passed answers after
      → IsInQueue n after × Comes (returns_in moves answers) n p.waiting after.waiting
  run_leads [] p after [] [] sets_none good here queued ran =
      rw ran (here, comes_same n p.waiting)
  run_leads (m ∷ ms) p after (passed ∷ rest) (r ∷ rs) sets_none good here queued ran =
      let q : Pool V C R S F A = last_of p passed in
      let those = each_first (IsInQueue n) passed (flat rest) queued in
      let next = move_leads m p passed r sets_none.0 good here those ran.0 in
      let there = each_last (IsInQueue n) p passed here those in
      let later = run_leads ms q after rest rs sets_none.1 next.0 there
      (each_rest (IsInQueue n) passed (flat rest) queued) ran.1 in (
        later.0,
        comes_then (returned m r) (returns_in ms rs) n p.waiting q.waiting after.waiting next.1 later.1,
      )
  run_leads _ p after _ _ sets_none good here queued ran = absurd ran

pub granted_in_turn : {V E C R S F A : Type 0} (may : May V E C R S F A) → EachIsGrantedInTurn may
granted_in_turn may n earlier moves p after passed answers well within at sets_none ran queued enough =
    let all : Each (IsInQueue n) (p ∷ flat passed) =
    subst (λ (states : List (Pool _ _ _ _ _ _)). Each (IsInQueue n) states) (all_states-flat p passed) queued in
    let end = run_leads may n moves p after passed answers sets_none (well, within) all.0 all.1 ran in
    let both : (has_number n after.granted || has_number n after.waiting) ≡ true =
    sym (has_number-append n after.granted after.waiting) ∙ end.0.1 in
    elim (cases_Bool (has_number n after.granted)) [
      | inl granted ↦ granted
      | inr not ↦
          let waits : has_number n after.waiting ≡ true = rw not at both in
          let came = end.1 waits in
          let few = ahead-at n earlier p.waiting at in
          absurd (omega (arith, came.1, few, enough))
    ]
