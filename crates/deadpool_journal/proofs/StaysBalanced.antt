-- The books of any pool whose steps are counted stay balanced.
use Rattle.deadpool_journal.proofs.Words.{Option, Result, Ok, Err, ap, DeskState, Does, DoesForOwner}
use Rattle.deadpool_journal.proofs.Words.{OwnerReply, OwnerStep, Reply, Step, Slot, number_in, numbered, IsStep, Entry}
use Rattle.deadpool_journal.proofs.Words.{Retained, Retains, AllocError, Ghosts as RetainerOf}
use Rattle.deadpool_journal.proofs.{Balance.size_numbered, Balance.step_balanced, ByNumber.does_numbered}
use Rattle.deadpool_journal.proofs.{ByNumber.does_for_owner_numbered, Retains.retain_noted, Retains.retain_numbered}
use Rattle.deadpool_desk.specs.DeskState.{size}
use Rattle.deadpool_journal.specs.Tally.{AreBalanced, counted, counted_for_owner, counted_made, counted_retain, gone}
use Rattle.deadpool_journal.specs.Tally.{StaysBalanced}
use Rattle.deadpool_journal.specs.declared.entry.Entry.TheVariants.{Made, Owner}
use Rattle.deadpool_journal.specs.declared.tally.Tally.{Tally}

module _ {T : Type 0} where
  -- a step by number is one of the pool
  entry_balanced : (d d' : DeskState (Slot T)) (e : Entry) (t : Tally) → IsStep (numbered d) e (numbered d')
      → AreBalanced (size d) t → AreBalanced (size d') (counted (gone d d') e t)
  entry_balanced d d' e t makes b =
      let was : AreBalanced (size (numbered d)) t = rw (size_numbered d) b in
      rw (size_numbered d, size_numbered d') at (step_balanced (numbered d) (numbered d') e t makes was)

  pub made_stays : (d d' : DeskState (Slot T)) (step : Step) (o : Option (Slot T)) (reply : Reply)
      → Does d step o reply d' → StaysBalanced (λ was now. counted_made step reply) d d'
  made_stays d d' step o reply h =
      λ t b. entry_balanced d d' (Made step (number_in o) reply) t (does_numbered d d' step o reply h) b

  pub for_owner_stays : (d d' : DeskState (Slot T)) (step : OwnerStep) (reply : OwnerReply)
      → DoesForOwner d step reply d' → StaysBalanced (λ was now. counted_for_owner (gone was now) step) d d'
  for_owner_stays d d' step reply h =
      λ t b. entry_balanced d d' (Owner step reply) t (does_for_owner_numbered d d' step reply h) b

  pub retain_stays : {R L : Type 0} (asks : RetainerOf R T L) (d d' : DeskState (Slot T)) (r r' : R)
      (result : Result (Retained L) AllocError) → Retains asks d r result d' r'
      → StaysBalanced (λ was now. counted_retain (gone was now) result) d d'
  retain_stays asks d d' r r' (Ok given) h =
      let all = retain_noted asks d d' r r' given h in
      λ t b. entry_balanced d d' (Entry.Retain (Ok all.0)) t
      (retain_numbered asks d d' r r' (given, all.0) all.1) b
  retain_stays asks d d' r r' (Err e) h = λ t b. rw (ap (size {O = Slot T}) h.1) b
