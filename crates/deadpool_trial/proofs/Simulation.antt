-- Each advance of a get over the desk is an advance of its party in the pool.
use Rattle.deadpool_trial.proofs.Basics.{◌≡◌, ℕ, List, Bool, set, subst, Option, Some, slice_get, Gives}
use Rattle.deadpool_trial.proofs.Words.{named, Moment, Timeouts, DeskState, Does, Getting, May, Reserve, Made, no_step}
use Rattle.deadpool_trial.proofs.Words.{making, Makes, AdvancesFrom, Pool, advance_at, NobodyWaits, standing_of}
use Rattle.deadpool_trial.proofs.Words.{TrialInvariant, given, reply_to, Slot, Stage}
use Rattle.deadpool_trial.proofs.Words.{Turn, Step, core_desk, Setup, image}
use Rattle.deadpool_trial.proofs.Words.{get_at}
use Rattle.deadpool_managed.specs.Stages as stage
use Rattle.deadpool_trial.proofs.Entries.{from_entered, from_unrun, from_going, from_queued}
use Rattle.deadpool_trial.proofs.Advances.{from_creating, from_recycling, from_checking, from_finished}

-- memory: the allocator may find memory for the queue, and may find none
module _ {M V E C R S F A : Type 0} (may : May V E C R S F A) (memory : (found : Bool) → may Reserve found)
    (setup : Setup M F A V E C R S) (n : ℕ) (now : Moment)
    (core core' : DeskState (Slot V)) (gets : List (Option (Getting V C R S))) (out : List (Slot V)) where
  abbrev pool : Pool V C R S F A
  pool = image setup core gets out

  pub get_advanced : (own : Timeouts) (old s : Stage V C R S) (t : Turn V E) (made : Made V)
      → TrialInvariant core gets out
      → NobodyWaits pool
      → slice_get gets n ≡ Some (get_at own old) → Makes core_desk core made core'
      → AdvancesFrom may setup.environment.runtime setup.environment.hooks now own old made s t
      → Gives may (advance_at (standing_of old) n record { timeouts = own; standing = standing_of old } now pool)
      (reply_to t, image setup core' (set gets n (get_at own s)) (given t out))
      × TrialInvariant core' (set gets n (get_at own s)) (given t out)
  get_advanced own stage.Unpolled s t no_step k nobody h e a =
      from_unrun may setup n now core core' gets out own k nobody h s t e a.0 a.1 a.2
  get_advanced own stage.Unpolled s t (making (Step.Enter wait) r object) k nobody h e a =
      from_entered may setup n now core core' gets out own k nobody h a.0 memory wait r object s t a.1 e.1 a.2
  get_advanced own (stage.Queued ticket deadline) s t (making (Step.Ask named expired) r object) k nobody h e a =
      from_queued may setup n now core core' gets out own k nobody ticket deadline h expired r object s t a.1
      (subst (λ u. Does core (Step.Ask u expired) object r core') a.0 e.1) a.2
  get_advanced own (stage.Going allowance) s t (making (Step.Again asked) r object) k nobody h e a =
      from_going may setup n now core core' gets out own k nobody allowance h r object s t
      (subst (λ o. Does core (Step.Again o) object r core') a.0 e.1) a.1
  get_advanced own (stage.Creating begun until) s t made k nobody h e a =
      from_creating may setup n now core core' gets out own k begun until made s t h e a
  get_advanced own (stage.Recycling preparation allowance) s t made k nobody h e a =
      from_recycling may setup n now core core' gets out own k preparation allowance made s t h e a.0 a.1.0 a.1.1
  get_advanced own (stage.Checking slot at) s t made k nobody h e a =
      from_checking may setup n now core core' gets out own k slot at made s t h e a.0 a.1.0 a.1.1
  get_advanced own stage.Finished s t no_step k nobody h e a =
      from_finished may setup n now core core' gets out own k s t h e a.0 a.1
  get_advanced own _ s t _ k nobody h e a = absurd a
