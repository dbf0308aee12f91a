-- What is seen of a trial's fields is what is seen of the pool that they are.
use Rattle.deadpool_trial.proofs.OfUnmanaged.Basics.{◌≡◌, ℕ, List, Option, Some}
use Rattle.deadpool_trial.proofs.OfUnmanaged.Basics.{refl, eq-eqb, slice_get, slice_get-map}
use Rattle.deadpool_trial.proofs.OfUnmanaged.Basics.{granted-renamed, Runtime}
use Rattle.deadpool_trial.proofs.OfUnmanaged.Words.{State, AddStage, GetStage, image, party_of, has_get, has_add}
use Rattle.deadpool_trial.proofs.OfUnmanaged.Words.{TrialInvariant, look_of, look_at_get, look_at_add, Item, Visitor}

module _ {V : Type 0} (runtime : Option Runtime) (most next : ℕ) (d : State (Item V))
    (visitors : List (Option (Visitor V))) (out : List (Item V)) where
  module _ (k : TrialInvariant d visitors out) (n : ℕ) where
    -- of a get and of an add, by their stage
    pub look_of-get : (s : GetStage) → slice_get visitors n ≡ Some (Some (Visitor.Get s))
        → look_of n (image runtime most next d visitors out) ≡ look_at_get d.gets s
    look_of-get (GetStage.Unpolled wait) there = rw (slice_get-map party_of visitors n, there) refl
    look_of-get (GetStage.Queued t deadline) there =
        let mine = (k.gets.listed n t (Some (Visitor.Get (GetStage.Queued t deadline))) there (eq-eqb t t refl)).1 in
        let renamed = granted-renamed has_get d.gets visitors k.gets n (Some (Visitor.Get (GetStage.Queued t deadline)))
        (Some (Visitor.Get (GetStage.Queued t deadline))) there t mine (λ u. refl) in
        rw (slice_get-map party_of visitors n, there, renamed) refl
    look_of-get GetStage.Finished there = rw (slice_get-map party_of visitors n, there) refl

    pub look_of-add : (s : AddStage (Item V)) → slice_get visitors n ≡ Some (Some (Visitor.Add s))
        → look_of n (image runtime most next d visitors out) ≡ look_at_add d.adds s
    look_of-add (AddStage.Unpolled item) there = rw (slice_get-map party_of visitors n, there) refl
    look_of-add (AddStage.Queued t item) there =
        let mine = (k.adds.listed n t (Some (Visitor.Add (AddStage.Queued t item))) there (eq-eqb t t refl)).1 in
        let renamed = granted-renamed has_add d.adds visitors k.adds n (Some (Visitor.Add (AddStage.Queued t item)))
        (Some (Visitor.Add (AddStage.Queued t item))) there t mine (λ u. refl) in
        rw (slice_get-map party_of visitors n, there, renamed) refl
    look_of-add AddStage.Finished there = rw (slice_get-map party_of visitors n, there) refl
