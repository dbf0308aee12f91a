-- A poll by the visitor of a party.
use Rattle.deadpool_trial.proofs.OfUnmanaged.Basics.{◌≡◌, ℕ, List, set, sym, ◌∙◌, subst, Option, Some, None, slice_get}
use Rattle.deadpool_trial.proofs.OfUnmanaged.Basics.{Moment, Runtime, set-same}
use Rattle.deadpool_trial.proofs.OfUnmanaged.Words.{held_by, image, TrialInvariant, RunInvariant}
use Rattle.deadpool_trial.proofs.OfUnmanaged.Words.{State, PollsVisitor, got, added}
use Rattle.deadpool_trial.proofs.OfUnmanaged.Words.{given, reply_to, Item, Visitor, Turn}
use Rattle.deadpool_trial.proofs.OfUnmanaged.{AddPolls.add_polled, GetPolls.Polled, GetPolls.get_polled}

module _ {V : Type 0} (runtime : Option Runtime) (most next : ℕ) (d : State (Item V))
    (visitors : List (Option (Visitor V))) (out : List (Item V)) (k : TrialInvariant d visitors out)
    (well : RunInvariant (image runtime most next d visitors out)) (n : ℕ) (now : Moment) where
  -- what a party that is there comes to is what its poll in the pool comes to
  pub visitor_polled : (old after : Option (Visitor V)) (came_to : Option (Turn V)) (turn : Turn V)
      (d' : State (Item V)) → slice_get visitors n ≡ Some old → came_to ≡ Some turn
      → PollsVisitor runtime now old d came_to after d'
      → Polled runtime most next d visitors out k well n now (reply_to turn) d' after (given turn out)
  visitor_polled None after came_to turn d' here is polls = absurd (let differ = sym polls.0 ∙ is in cc)
  visitor_polled (Some (Visitor.Get stage)) after came_to turn d' here is polls =
      let same : got polls.polled ≡ turn = let twice = sym polls.turn_is ∙ is in cc in
      rw polls.visitor_is
      (subst (λ (t : Turn V). Polled runtime most next d visitors out k well n now (reply_to t) d'
      (Some (Visitor.Get polls.left)) (given t out)) same
      (get_polled runtime most next d visitors out k well n now stage here polls.polled polls.left d' polls.polls))
  visitor_polled (Some (Visitor.Add stage)) after came_to turn d' here is polls =
      let same : added (held_by stage) polls.polled ≡ turn = let twice = sym polls.turn_is ∙ is in cc in
      rw polls.visitor_is
      (subst (λ (t : Turn V). Polled runtime most next d visitors out k well n now (reply_to t) d'
      (Some (Visitor.Add polls.left)) (given t out)) same
      (add_polled runtime most next d visitors out k well n now stage here polls.polled polls.left d' polls.polls))

  -- if nobody is there, nothing changes
  pub not_polled : (old after : Option (Visitor V)) (came_to : Option (Turn V)) (d' : State (Item V))
      → slice_get visitors n ≡ Some old → came_to ≡ None → PollsVisitor runtime now old d came_to after d'
      → (slice_get visitors n ≡ Some None) × (set visitors n after ≡ visitors) × (d' ≡ d)
  not_polled None after came_to d' here is polls = (here, rw polls.1 (set-same visitors n None here), polls.2)
  not_polled (Some (Visitor.Get stage)) after came_to d' here is polls =
      absurd (let differ = sym is ∙ polls.turn_is in cc)
  not_polled (Some (Visitor.Add stage)) after came_to d' here is polls =
      absurd (let differ = sym is ∙ polls.turn_is in cc)
