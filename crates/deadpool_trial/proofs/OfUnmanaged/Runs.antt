-- Runs, move by move, and what each of their states has.
use Rattle.deadpool_trial.proofs.OfUnmanaged.Basics.{◌≡◌, List, [], ◌∷◌, Bool, refl, sym, ap, ◌∙◌, subst, all_states}
use Rattle.deadpool_trial.proofs.OfUnmanaged.Basics.{Each, Neighbours}
use Rattle.deadpool_trial.proofs.OfUnmanaged.Words.{PoolInvariant, moved, Gives, PoolRuns}
use Rattle.deadpool_trial.proofs.OfUnmanaged.Words.{NobodyWaits, IsWithinLimit, Pool}
use Rattle.deadpool_trial.proofs.OfUnmanaged.Words.{Move, Reply}
use Rattle.deadpool_trial.proofs.OfUnmanaged.Lawful.{within_limit, moved_lawful}

module _ {V : Type 0} where
  -- one move, before the others of a run
  pub runs_more : (p q after : Pool V) (first : Move V) (moves all : List (Move V)) (answer : Reply V)
      (answers : List (Reply V)) (rest : List (List (Pool V)))
      → all ≡ first ∷ moves → Gives first p answer q → PoolRuns q moves rest answers after
      → PoolRuns p all ((q ∷ []) ∷ rest) (answer ∷ answers) after
  runs_more p q after first moves all answer answers rest e gives ran = rw e ((q, (refl, gives)), ran)

  -- no move is left
  pub runs_end : (p : Pool V) (left : List (Move V)) → left ≡ [] → PoolRuns p left [] [] p
  runs_end p left e = rw e refl

  -- the states after the first are those of the rest
  states_one : (p q : Pool V) (rest : List (List (Pool V))) → all_states p ((q ∷ []) ∷ rest) ≡ p ∷ all_states q rest
  states_one p q [] = refl
  states_one p q (passed ∷ rest) = refl

  -- a fact of the first two, before those of the rest
  next_one : (Next : Pool V → Pool V → Type 0) (p q : Pool V) (rest : List (List (Pool V))) → Next p q
      → Neighbours Next (all_states q rest) → Neighbours Next (p ∷ all_states q rest)
  next_one Next p q [] here later = (here, later)
  next_one Next p q (passed ∷ rest) here later = (here, later)

  -- what each move keeps is true of every state of a run, and what it leads to of each two neighbours
  module _ (Good : Pool V → Type 0) (Next : Pool V → Pool V → Type 0) (step : (found : Bool) (m : Move V) (p : Pool V)
      → Good p → Good (moved found m p).1 × Next p (moved found m p).1) where
    gives_next : (m : Move V) (p q : Pool V) (answer : Reply V) → Good p → Gives m p answer q → Good q × Next p q
    gives_next m p q answer good (found, is) =
        let after = ap (λ (x : Reply V × Pool V). x.1) is in
        subst (λ (r : Pool V). Good r × Next p r) after (step found m p good)

    pub runs_have : (moves : List (Move V)) (p after : Pool V) (passed : List (List (Pool V)))
        (answers : List (Reply V)) → Good p → PoolRuns p moves passed answers after
        → Each Good (all_states p passed) × Neighbours Next (all_states p passed) × Good after
    runs_have [] p after [] [] good ran = ((good, tt), tt, rw ran good)
    runs_have (m ∷ ms) p after (passed ∷ rest) (r ∷ rs) good ((q, (one, gives)), ran) =
        let next = gives_next m p q r good gives in
        let from_q : PoolRuns q ms rest rs after = rw one at ran in
        let later = runs_have ms q after rest rs next.0 from_q in
        let whole = ap (λ (xs : List (Pool V)). all_states p (xs ∷ rest)) one ∙ states_one p q rest in
        let P : List (Pool V) → Type 0 = λ states. Each Good states × Neighbours Next states × Good after in
        subst P (sym whole) ((good, later.0), next_one Next p q rest next.1 later.1, later.2)
    runs_have _ p after _ _ good ran = absurd ran

  -- what holds of each if something else does
  pub Each-more : (P more : Pool V → Type 0) → ((p : Pool V) → P p → more p) → (ps : List (Pool V)) → Each P ps
      → Each more ps
  Each-more P more implies [] all = tt
  Each-more P more implies (p ∷ ps) all = (implies p all.0, Each-more P more implies ps all.1)

  -- in no state of a lawful run does anybody wait for what is free, and none has more objects than the limit
  pub runs_lawful : (moves : List (Move V)) (p after : Pool V) (passed : List (List (Pool V)))
      (answers : List (Reply V)) → PoolInvariant p → PoolRuns p moves passed answers after
      → Each NobodyWaits (all_states p passed) × Each IsWithinLimit (all_states p passed)
  runs_lawful moves p after passed answers lawful ran =
      let have = runs_have PoolInvariant (λ x y. Unit {0})
      (λ found m x good. ((moved_lawful found m x good).0, tt)) moves p after passed answers lawful ran in
      let each = have.0 in (
        Each-more PoolInvariant NobodyWaits (λ x good. good.nobody_waits) (all_states p passed) each,
        Each-more PoolInvariant IsWithinLimit (λ x good. within_limit x good) (all_states p passed) each,
      )
