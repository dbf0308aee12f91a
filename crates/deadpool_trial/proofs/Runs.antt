-- Runs, move by move: their states, and what each move keeps, which holds of every state and of each two neighbours.
use Rattle.deadpool_trial.proofs.Basics.{◌≡◌, List, [], ◌∷◌, ◌++◌, refl, ap, last_of, all_states, Each, Neighbours, ℕ}
use Rattle.deadpool_trial.proofs.Basics.{subst, Gives, sym, Always, Later, Always-Gives}
use Rattle.deadpool_trial.proofs.Words.{Moment, May, Pool, one_step, Polls, Reply, MakesMove, PoolRuns, Move, rest}
use Rattle.deadpool_trial.proofs.Words.{given}
use Rattle.deadpool_trial.specs.declared.moves.Move.TheVariants as move
use Rattle.deadpool_trial.specs.declared.moves.Reply.TheVariants as reply

module _ {X : Type 0} where
  abbrev pub flat : List (List X) → List X
  flat [] = []
  flat (xs ∷ xss) = xs ++ flat xss

  abbrev others : List X → List X
  others [] = []
  others (x ∷ xs) = xs

  -- a run's states are its first and those that its moves passed
  pub all_states-flat : (x : X) (passed : List (List X)) → all_states x passed ≡ x ∷ flat passed
  all_states-flat x [] = refl
  all_states-flat x (xs ∷ []) = refl
  all_states-flat x (xs ∷ ys ∷ yss) = ap (λ zs. x ∷ (xs ++ others zs)) (all_states-flat x (ys ∷ yss))

  -- what follows from a fact of each holds of each
  pub Each-more : (P more : X → Type 0) → ((x : X) → P x → more x) → (xs : List X) → Each P xs → Each more xs
  Each-more P more implies [] h = tt
  Each-more P more implies (x ∷ xs) h = (implies x h.0, Each-more P more implies xs h.1)

  -- what holds of each of two lists holds of both together
  pub Each-append : (P : X → Type 0) (xs ys : List X) → Each P xs → Each P ys → Each P (xs ++ ys)
  Each-append P [] ys h k = k
  Each-append P (x ∷ xs) ys h k = (h.0, Each-append P xs ys h.1 k)

  -- more states go on from the last
  pub Neighbours-append : (P : X → X → Type 0) (x : X) (xs ys : List X) → Neighbours P (x ∷ xs)
      → Neighbours P (last_of x xs ∷ ys) → Neighbours P (x ∷ (xs ++ ys))
  Neighbours-append P x [] ys h k = k
  Neighbours-append P x (y ∷ xs) ys h k = (h.0, Neighbours-append P y xs ys h.1 k)

module _ {V E C R S F A : Type 0} (may : May V E C R S F A) (n : ℕ) (now : Moment) where
  -- an advance with more to do, before the advances of a poll
  pub polls_more : (p q : Pool V C R S F A) (answer : Reply V E) (passed : List (Pool V C R S F A))
      → Gives may (one_step (move.Advance n now) p) (reply.More, q) → Polls may n now q passed answer
      → Polls may n now p (q ∷ passed) answer
  polls_more p q answer [] g rest = absurd rest
  polls_more p q answer (t ∷ ss) g rest = (g, rest)

module _ {V E C R S F A : Type 0} (may : May V E C R S F A) where
  -- one move, before the others of a run
  pub runs_more : (p q after : Pool V C R S F A) (first : Move V) (moves all : List (Move V)) (answer : Reply V E)
      (answers : List (Reply V E))
      (passed : List (Pool V C R S F A)) (rest : List (List (Pool V C R S F A)))
      → all ≡ first ∷ moves → MakesMove may p first passed answer → q ≡ last_of p passed
      → PoolRuns may q moves rest answers after
      → PoolRuns may p all (passed ∷ rest) (answer ∷ answers) after
  runs_more p q after first moves all answer answers passed rest e made last ran =
      subst (λ (ms : List (Move V)). PoolRuns may p ms (passed ∷ rest) (answer ∷ answers) after) (sym e)
      (made, subst (λ (s : Pool V C R S F A). PoolRuns may s moves rest answers after) last ran)

  pub runs_end : (p : Pool V C R S F A) (left : List (Move V)) → left ≡ [] → PoolRuns may p left [] [] p
  runs_end p left e = subst (λ (ms : List (Move V)). PoolRuns may p ms [] [] p) (sym e) refl

-- what holds of anything holds of each
pub each_of : {X : Type 0} (P : X → Type 0) → ((x : X) → P x) → (xs : List X) → Each P xs
each_of P all [] = tt
each_of P all (x ∷ xs) = (all x, each_of P all xs)

-- what follows from a fact of two neighbours holds of them
pub Neighbours-more : {X : Type 0} (P more : X → X → Type 0) → ((x y : X) → P x y → more x y) → (xs : List X)
    → Neighbours P xs → Neighbours more xs
Neighbours-more P more implies [] h = tt
Neighbours-more P more implies (x ∷ []) h = tt
Neighbours-more P more implies (x ∷ y ∷ zs) h = (implies x y h.0, Neighbours-more P more implies (y ∷ zs) h.1)

-- what leads from one to the next, and so on, leads to each later one
pub Later-of : {X : Type 0} (P : X → X → Type 0) → ((x y z : X) → P x y → P y z → P x z) → (xs : List X)
    → Neighbours P xs → Later P xs
Later-of P leads [] h = tt
Later-of P leads (x ∷ []) h = (tt, tt)
Later-of P leads (x ∷ y ∷ zs) h =
    let rest = Later-of P leads (y ∷ zs) h.1 in
    ((h.0, Each-more (P y) (P x) (λ z k. leads x y z h.0 k) zs rest.0), rest)

-- what follows holds of each later one
pub Later-more : {X : Type 0} (P more : X → X → Type 0) → ((x y : X) → P x y → more x y) → (xs : List X) → Later P xs
    → Later more xs
Later-more P more implies [] h = tt
Later-more P more implies (x ∷ xs) h = (Each-more (P x) (more x) (implies x) xs h.0, Later-more P more implies xs h.1)

-- Some moves, a fact of a pool that they keep, and one of the pools before and after each
module _ {V E C R S F A : Type 0} (may : May V E C R S F A) (IsMeant : Move V → Type 0)
    (Good : Pool V C R S F A → Type 0) (Next : Pool V C R S F A → Pool V C R S F A → Type 0)
    (advances : (n : ℕ) (now : Moment) → IsMeant (move.Poll n now) → IsMeant (move.Advance n now))
    (step : (m : Move V) (p : Pool V C R S F A) → IsMeant m → Good p
    → Always (λ (x : Reply V E × Pool V C R S F A). Good x.1 × Next p x.1) (one_step m p)) where
  -- what the states that the move passed from p have, and its last step
  Passing : Move V → Pool V C R S F A → List (Pool V C R S F A) → Reply V E → Type 0
  Passing m p passed answer =
      Each Good passed × Neighbours Next (p ∷ passed) × Good (last_of p passed)
      × ((q : Pool V C R S F A) × Good q × Gives may (one_step m q) (answer, last_of p passed))

  -- a move that was answered so
  gives_next : (m : Move V) (p after : Pool V C R S F A) (answer : Reply V E) → IsMeant m → Good p
      → Gives may (one_step m p) (answer, after) → Good after × Next p after
  gives_next m p after answer meant good given =
      Always-Gives (λ (x : Reply V E × Pool V C R S F A). Good x.1 × Next p x.1) may (one_step m p) (
        answer,
        after,
      ) (step m p meant good) given

  -- the states that a poll passes
  polls_have : (n : ℕ) (now : Moment) (p : Pool V C R S F A) (passed : List (Pool V C R S F A)) (answer : Reply V E)
      → IsMeant (move.Advance n now) → Good p → Polls may n now p passed answer
      → Passing (move.Poll n now) p passed answer
  unfolding Passing
  polls_have n now p [] answer meant good ran = absurd ran
  polls_have n now p (s ∷ []) answer meant good ran =
      let next = gives_next (move.Advance n now) p s answer meant good ran.0 in
      ((next.0, tt), (next.1, tt), next.0, (p, good, ran.0))
  polls_have n now p (s ∷ t ∷ ss) answer meant good ran =
      let next = gives_next (move.Advance n now) p s reply.More meant good ran.0 in
      let rest = polls_have n now s (t ∷ ss) answer meant next.0 ran.1 in
      ((next.0, rest.0), (next.1, rest.1), rest.2, rest.3)

  -- the one state that another move passes
  one_has : (m : Move V) (p after : Pool V C R S F A) (passed : List (Pool V C R S F A)) (answer : Reply V E)
      → IsMeant m → Good p → passed ≡ after ∷ [] → Gives may (one_step m p) (answer, after)
      → Passing m p passed answer
  unfolding Passing
  one_has m p after passed answer meant good e given =
      let next = gives_next m p after answer meant good given in
      rw e ((next.0, tt), (next.1, tt), next.0, (p, good, given))

  -- the states that one move passes: a poll by its advances, and each other move by its one state
  makes_have : (m : Move V) (p : Pool V C R S F A) (passed : List (Pool V C R S F A)) (answer : Reply V E) → IsMeant m
      → Good p → MakesMove may p m passed answer → Passing m p passed answer
  makes_have (move.Poll n now) p passed answer meant good ran =
      polls_have n now p passed answer (advances n now meant) good ran
  makes_have m p passed answer meant good ran = one_has m p ran.0 passed answer meant good ran.1 ran.2

  -- each two neighbours of them
  pub makes_next : (m : Move V) (p : Pool V C R S F A) (passed : List (Pool V C R S F A)) (answer : Reply V E)
      → IsMeant m → Good p → MakesMove may p m passed answer → Neighbours Next (p ∷ passed)
  unfolding Passing
  makes_next m p passed answer meant good ran = (makes_have m p passed answer meant good ran).1

  -- and its reply, with the last of them
  pub makes_reply : (P : Move V → Reply V E → Pool V C R S F A → Type 0)
      → ((m : Move V) (p : Pool V C R S F A) → Good p
      → Always (λ (x : Reply V E × Pool V C R S F A). P m x.0 x.1) (one_step m p))
      → (m : Move V) (p : Pool V C R S F A) (passed : List (Pool V C R S F A)) (answer : Reply V E) → IsMeant m → Good p
      → MakesMove may p m passed answer → P m answer (last_of p passed)
  unfolding Passing
  makes_reply P always m p passed answer meant good ran =
      let end = (makes_have m p passed answer meant good ran).3 in
      Always-Gives (λ (x : Reply V E × Pool V C R S F A). P m x.0 x.1) may (one_step m end.0) (
        answer,
        last_of p passed,
      ) (always m end.0 end.1) end.2

  -- the states of a whole run, one after another
  states_have : (moves : List (Move V)) (p after : Pool V C R S F A) (passed : List (List (Pool V C R S F A)))
      (answers : List (Reply V E)) → Each IsMeant moves → Good p
      → PoolRuns may p moves passed answers after
      → Each Good (flat passed) × Neighbours Next (p ∷ flat passed) × Good after
  unfolding Passing
  states_have [] p after [] [] meant good ran = (tt, tt, rw ran good)
  states_have (m ∷ ms) p after (passed ∷ rest) (r ∷ rs) meant good ran =
      let here = makes_have m p passed r meant.0 good ran.0 in
      let later = states_have ms (last_of p passed) after rest rs meant.1 here.2 ran.1 in (
        Each-append Good passed (flat rest) here.0 later.0,
        Neighbours-append Next p passed (flat rest) here.1 later.1,
        later.2,
      )
  states_have _ p after _ _ meant good ran = absurd ran

  -- all the states of a run, its first with them
  pub runs_have : (moves : List (Move V)) (p after : Pool V C R S F A) (passed : List (List (Pool V C R S F A)))
      (answers : List (Reply V E)) → Each IsMeant moves → Good p
      → PoolRuns may p moves passed answers after
      → Each Good (all_states p passed) × Neighbours Next (all_states p passed) × Good after
  runs_have moves p after passed answers meant good ran =
      let have = states_have moves p after passed answers meant good ran in
      let P : List (Pool V C R S F A) → Type 0 = λ states. Each Good states × Neighbours Next states × Good after in
      subst P (sym (all_states-flat p passed)) ((good, have.0), have.1, have.2)
