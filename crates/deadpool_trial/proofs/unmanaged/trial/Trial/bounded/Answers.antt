-- A trial gets a bound: nobody waits in its core, as nobody does in the lists, and all that is true of it stays so.
use Rattle.deadpool_trial.proofs.OfUnmanaged.Basics.{◌≡◌, List, [], ◌∷◌, map, refl}
use Rattle.deadpool_trial.proofs.OfUnmanaged.Well.{bounded_well}
use Rattle.deadpool_trial.proofs.unmanaged.trial.Trial.bounded.Goals as goal

-- what is renamed to nothing is nothing
none_renamed : {A B : Type 0} (f : A → B) (xs : List A) → map f xs ≡ [] → xs ≡ []
none_renamed f [] none = refl
none_renamed f (x ∷ xs) none = cc

pub bounded-requires-clause-gets : goal.bounded-requires-clause-gets
bounded-requires-clause-gets g c = let none = c.requires.gets in none_renamed _ _ (rw (← c.self.view_is) at none)

pub bounded-requires-clause-adds : goal.bounded-requires-clause-adds
bounded-requires-clause-adds g c = let none = c.requires.adds in none_renamed _ _ (rw (← c.self.view_is) at none)

pub invariant_of-result : goal.invariant_of-result
invariant_of-result g c =
    let kept = c.self.invariant in
    let counted = kept.counted in
    rw c.bounded.ensures
    record {
      counted = record { gets = counted.gets; adds = counted.adds; outside = counted.outside };
      well = bounded_well c.args.max_waiting _ kept.well;
      parties = kept.parties;
      places = kept.places;
      out_room = kept.out_room;
    }
