-- The pool in lists that a core, its gets and the objects out stand for.
use Rattle.std.specs.Prelude.{ℕ, ◌+◌, ◌≤◌, ◌≡◌, List, length, map, Option, Some, None, Bool, true, false, ◌==◌}
use Rattle.std.specs.List.{filter, filter_map}
use Rattle.deadpool_gate.specs.Owners.{owner, TicketsMatch}
use Rattle.deadpool_gate.specs.Queue.{Queue}
use Rattle.deadpool_desk.specs.DeskState.{DeskState}
use Rattle.deadpool_managed.specs.Stages.{Getting, Stage}
use Rattle.deadpool_trial.specs.Pool.{Pool, Party, Standing, unpolled, queued, going, creating, recycling, checking}
use Rattle.deadpool_trial.specs.Pool.{finished, is_going, is_creating, prepared_by}
use Rattle.deadpool_managed.specs.Slots.{Slot}
use Rattle.deadpool_managed.specs.Stages as stage
use Rattle.deadpool_trial.specs.declared.trial.Setup.{Setup}

module _ {V : Type 0} where
  -- a desk's queue
  abbrev pub queue_of : DeskState (Slot V) → Queue
  queue_of d = record { granted = d.granted; waiting = d.waiting }

module _ {V C R S : Type 0} where
  -- a ticket's number means nothing in the lists
  abbrev pub standing_of : Stage V C R S → Standing V C R S
  standing_of stage.Unpolled = unpolled
  standing_of (stage.Queued ticket deadline) = queued deadline
  standing_of (stage.Going allowance) = going allowance
  standing_of (stage.Creating begun deadline) = creating begun deadline
  standing_of (stage.Recycling preparation allowance) = recycling preparation allowance
  standing_of (stage.Checking slot at) = checking slot at
  standing_of stage.Finished = finished

  abbrev pub party_of : Option (Getting V C R S) → Option (Party V C R S)
  party_of None = None
  party_of (Some get) = Some record { timeouts = get.timeouts; standing = standing_of get.stage }

  abbrev pub holds_ticket : ℕ → Stage V C R S → Bool
  holds_ticket t (stage.Queued ticket deadline) = ticket == t
  holds_ticket t _ = false

  abbrev pub has_ticket : ℕ → Option (Getting V C R S) → Bool
  has_ticket t None = false
  has_ticket t (Some get) = holds_ticket t get.stage

  -- the get has neither ended nor been cancelled
  abbrev pub is_under_way : Option (Getting V C R S) → Bool
  is_under_way None = false
  is_under_way (Some get) = not_finished get.stage
    where
      not_finished : Stage V C R S → Bool
      not_finished stage.Finished = false
      not_finished _ = true

  -- The desk's counts are the lengths of the lists, and the objects out have room if the parties have theirs.
  pub record TrialInvariant (d : DeskState (Slot V)) (gets : List (Option (Getting V C R S))) (out : List (Slot V)) :
      Type 0 where
    pub tickets : TicketsMatch has_ticket (queue_of d) gets
    pub going : d.going ≡ length (filter is_going (map party_of gets))
    pub creations : d.creations ≡ length (filter is_creating (map party_of gets))
    pub outside : d.outside ≡ length (filter_map prepared_by (map party_of gets)) + length out
    pub room : length out + length (filter is_under_way gets) ≤ length gets

-- the pool of a desk, of its gets and of the objects out, with what never changes
abbrev pub image : {M V E C R S F A : Type 0} → Setup M F A V E C R S → DeskState (Slot V)
    → List (Option (Getting V C R S)) → List (Slot V) → Pool V C R S F A
image setup d gets out = record {
  limit = d.limit;
  is_open = d.is_open;
  mode = d.mode;
  runtime = setup.environment.runtime;
  hooks = setup.environment.hooks;
  min_idle = d.min_idle;
  max_waiting = d.max_waiting;
  handles = d.handles;
  first = setup.first;
  next = d.next;
  reserve = d.reserve;
  timeouts = setup.timeouts;
  most_parties = setup.most_parties;
  parties = map party_of gets;
  idle = d.idle;
  waiting = map (owner has_ticket gets) d.waiting;
  granted = map (owner has_ticket gets) d.granted;
  out = out;
}
