-- A step of the core is a move of its pool, whether the pool settles then or stays as it is.
use Rattle.deadpool_trial.proofs.OfUnmanaged.Basics.{◌≡◌, ℕ, List, Bool, sym, ap, ◌∙◌, subst, Option, Runtime}
use Rattle.deadpool_trial.proofs.OfUnmanaged.Words.{image, TrialInvariant, RunInvariant, NobodyWaits}
use Rattle.deadpool_trial.proofs.OfUnmanaged.Words.{Gives, unsettled, moved, Pool}
use Rattle.deadpool_trial.proofs.OfUnmanaged.Words.{settle, State, settled, Item, Move, Reply, Visitor}
use Rattle.deadpool_trial.proofs.OfUnmanaged.{Lawful.moved_lawful, Settling.settle-none, Settling.settles}
use Rattle.deadpool_trial.proofs.OfUnmanaged.{Settling.counted-settled, Well.moved_well}

-- what a trial keeps by a move, all but its capacities, and that it is one
pub record Follows {V : Type 0} (m : Move V) (p : Pool V) (answer : Reply V) (d : State (Item V))
    (visitors : List (Option (Visitor V))) (out : List (Item V)) (q : Pool V) : Type 0 where
  pub gives : Gives m p answer q
  pub counted : TrialInvariant d visitors out
  pub well : RunInvariant q
  pub limit : q.limit ≡ p.limit

module _ {V : Type 0} (m : Move V) (p : Pool V) (well : RunInvariant p) (answer : Reply V) where
  -- what is answered so is well
  follows : (found : Bool) (d : State (Item V)) (visitors : List (Option (Visitor V))) (out : List (Item V))
      (q : Pool V) → moved found m p ≡ (answer, q) → TrialInvariant d visitors out
      → Follows m p answer d visitors out q
  follows found d visitors out q is counted =
      let led = moved_well found m p well in
      let limit = moved_lawful found m p well.lawful in
      let after = ap (λ (x : Reply V × Pool V). x.1) is in
      record {
        gives = (found, is);
        counted = counted;
        well = subst RunInvariant after led.0;
        limit = sym (ap (λ (r : Pool V). r.limit) after) ∙ limit.1;
      }

  module _ (runtime : Option Runtime) (most next : ℕ) (e : State (Item V)) (visitors : List (Option (Visitor V)))
      (out : List (Item V)) (counted : TrialInvariant e visitors out)
      (found : Bool) (makes : unsettled found m p ≡ (answer, image runtime most next e visitors out)) where
    img : State (Item V) → Pool V
    img d = image runtime most next d visitors out

    -- a step that ends with the settling
    pub by_settling : (d : State (Item V)) → d ≡ settled e
        → Follows m p answer d visitors out (image runtime most next d visitors out)
    unfolding img
    by_settling d is =
        let all = follows found (settled e) visitors out (image runtime most next (settled e) visitors out)
        (ap (λ (x : Reply V × Pool V). (x.0, settle x.1)) makes
        ∙ ap (λ (q : Pool V). (answer, q)) (sym (settles runtime most next e visitors out counted)))
        (counted-settled e visitors out counted) in
        subst (λ (c : State (Item V)). Follows m p answer c visitors out (image runtime most next c visitors out))
        (sym is) all

    -- a step after which nobody waits
    pub by_resting : (d : State (Item V)) → d ≡ e → NobodyWaits (image runtime most next e visitors out)
        → Follows m p answer d visitors out (image runtime most next d visitors out)
    by_resting d is nobody =
        let all = follows found e visitors out (image runtime most next e visitors out)
        (ap (λ (x : Reply V × Pool V). (x.0, settle x.1)) makes
        ∙ ap (λ (q : Pool V). (answer, q)) (settle-none (image runtime most next e visitors out) nobody)) counted in
        subst (λ (c : State (Item V)). Follows m p answer c visitors out (image runtime most next c visitors out))
        (sym is) all
