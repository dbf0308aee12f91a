-- The pool in lists that a core, its parties and the objects out stand for.
use Rattle.std.specs.Prelude.{◌≡◌, ℕ, Bool, false, ◌==◌, List, length, map, Option, Some, None}
use Rattle.deadpool_gate.specs.Owners.{owner, TicketsMatch}
use Rattle.deadpool_gate.specs.Queue.{renamed}
use Rattle.deadpool_parts.specs.declared.moment.Runtime.{Runtime}
use Rattle.deadpool_trial.specs.Unmanaged.Pool.{Pool, Party, new_get, queued_get, new_add, queued_add, finished}
use Rattle.deadpool_unmanaged.specs.State.{State}
use Rattle.deadpool_unmanaged.specs.declared.add.AddStage.{AddStage}
use Rattle.deadpool_unmanaged.specs.declared.add.AddStage.TheVariants as add
use Rattle.deadpool_unmanaged.specs.declared.get.GetStage.{GetStage}
use Rattle.deadpool_unmanaged.specs.declared.get.GetStage.TheVariants as get
use Rattle.deadpool_trial.specs.declared.unmanaged.moves.Item.{Item}
use Rattle.deadpool_trial.specs.declared.unmanaged.trial.Visitor.{Visitor}
use Rattle.deadpool_trial.specs.declared.unmanaged.trial.Visitor.TheVariants as visitor

-- the ticket is a queued get's
abbrev pub holds_get : ℕ → GetStage → Bool
holds_get t (get.Queued ticket deadline) = ticket == t
holds_get t _ = false

module _ {V : Type 0} where
  -- a ticket's number means nothing in the lists
  abbrev pub getting : GetStage → Party V
  getting (get.Unpolled wait) = new_get wait
  getting (get.Queued ticket deadline) = queued_get deadline
  getting get.Finished = finished

  abbrev pub adding : AddStage (Item V) → Party V
  adding (add.Unpolled item) = new_add item
  adding (add.Queued ticket item) = queued_add item
  adding add.Finished = finished

  abbrev pub party_of : Option (Visitor V) → Option (Party V)
  party_of None = None
  party_of (Some (visitor.Get stage)) = Some (getting stage)
  party_of (Some (visitor.Add stage)) = Some (adding stage)

  abbrev pub has_get : ℕ → Option (Visitor V) → Bool
  has_get t (Some (visitor.Get stage)) = holds_get t stage
  has_get t _ = false

  -- the ticket is a queued add's
  abbrev pub holds_add : ℕ → AddStage (Item V) → Bool
  holds_add t (add.Queued ticket item) = ticket == t
  holds_add t _ = false

  abbrev pub has_add : ℕ → Option (Visitor V) → Bool
  has_add t (Some (visitor.Add stage)) = holds_add t stage
  has_add t _ = false

  -- the queues are those of the visitors, and as many objects are out as the core counts
  pub record TrialInvariant (d : State (Item V)) (visitors : List (Option (Visitor V))) (out : List (Item V)) : Type 0
    where
      pub gets : TicketsMatch has_get d.gets visitors
      pub adds : TicketsMatch has_add d.adds visitors
      pub outside : d.outside ≡ length out

  abbrev pub image : Option Runtime → ℕ → ℕ → State (Item V) → List (Option (Visitor V)) → List (Item V) → Pool V
  image runtime most next d visitors out = record {
    limit = d.limit;
    is_open = d.is_open;
    handles = d.handles;
    max_waiting = d.max_waiting;
    runtime = runtime;
    next = next;
    most_parties = most;
    parties = map party_of visitors;
    idle = d.idle;
    out = out;
    gets = renamed (owner has_get visitors) d.gets;
    adds = renamed (owner has_add visitors) d.adds;
  }
