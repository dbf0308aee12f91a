-- A get in the queue that is served.
use Rattle.deadpool_desk.proofs.Names.{◌≡◌, ℕ, true, Bool, Option, Some, None, has_number, without_number, unqueued}
use Rattle.deadpool_desk.proofs.Names.{Serves, Slot}
use Rattle.deadpool_desk.specs.CoreState.{CoreState}
use Rattle.deadpool_desk.specs.CoreSteps.{Steps}
use Rattle.deadpool_desk.specs.declared.step.Reply.{Reply}
use Rattle.deadpool_desk.specs.declared.step.Reply.TheVariants.{Object, Create, Going, Exhausted}
use Rattle.deadpool_desk.specs.declared.step.Step.TheVariants.{Ask}

pub asked_served : {T : Type 0} (c c' : CoreState T) (ticket : ℕ) (expired : Bool) (object : Option (Slot T))
    (reply : Reply) → c.desk.is_open ≡ true → has_number ticket c.desk.granted ≡ true
    → Serves (unqueued ticket c.desk) None object reply c'.desk → c'.unnotified ≡ without_number ticket c.unnotified
    → c'.queue_room ≡ c.queue_room → Steps c (Ask ticket expired) object reply c'
asked_served c c' ticket expired (Some slot) (Object left) is_open has serves unnotified room =
    ((is_open, has, serves), unnotified, room)
asked_served c c' ticket expired None Create is_open has serves unnotified room =
    ((is_open, has, serves), unnotified, room)
asked_served c c' ticket expired None Going is_open has serves unnotified room =
    ((is_open, has, serves), unnotified, room)
asked_served c c' ticket expired None Exhausted is_open has serves unnotified room =
    ((is_open, has, serves), unnotified, room)
asked_served c c' ticket expired _ _ is_open has serves unnotified room = absurd serves
