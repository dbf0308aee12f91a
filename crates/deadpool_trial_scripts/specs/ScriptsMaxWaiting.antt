-- Worked scripts of pools in which no more than so many may wait.
-- Each equation is a script with the reply to each line, and holds by computing.
use Rattle.std.specs.Prelude.{[], ◌∷◌, Some, None, refl}
use Rattle.deadpool_parts.specs.declared.moment.Runtime.TheVariants.{Clock}
use Rattle.deadpool_parts.specs.declared.config.QueueMode.TheVariants.{Fifo}
use Rattle.deadpool_parts.specs.declared.errors.PoolError.TheVariants.{Closed, Crowded, Timeout}
use Rattle.deadpool_parts.specs.declared.errors.TimeoutType.TheVariants as phase
use Rattle.deadpool_trial_scripts.specs.Script.{Plays, ◌⇒◌, new_pool, new_pool_with_bound, start, start_with, poll}
use Rattle.deadpool_trial_scripts.specs.Script.{cancel, back, resize_to, close_pool, status, party, pending, object}
use Rattle.deadpool_trial_scripts.specs.Script.{failed, ok, kept, cancelled, stands}

-- One may wait. The next is refused at once, until the first has a place: then nobody waits.
pub one-more-is-refused : Plays (new_pool_with_bound 1 Fifo None 0 1) (
    start ⇒ party 0 ∷
    poll 0 0 ⇒ object 0 0 ∷
    start ⇒ party 1 ∷
    poll 1 0 ⇒ pending ∷
    start ⇒ party 2 ∷
    poll 2 0 ⇒ failed Crowded ∷
    back 0 ⇒ kept ∷
    start ⇒ party 3 ∷
    poll 3 0 ⇒ pending ∷
    start ⇒ party 4 ∷
    poll 4 0 ⇒ failed Crowded ∷
    poll 1 0 ⇒ object 0 0 ∷
    poll 3 0 ⇒ pending ∷ [])
one-more-is-refused = refl

-- One that leaves the queue makes room for another.
pub cancelled-makes-room : Plays (new_pool_with_bound 1 Fifo None 0 1) (
    start ⇒ party 0 ∷
    poll 0 0 ⇒ object 0 0 ∷
    start ⇒ party 1 ∷
    poll 1 0 ⇒ pending ∷
    cancel 1 ⇒ cancelled ∷
    start ⇒ party 2 ∷
    poll 2 0 ⇒ pending ∷
    start ⇒ party 3 ∷
    poll 3 0 ⇒ failed Crowded ∷ [])
cancelled-makes-room = refl

-- Where nobody may wait, one that is not willing to is refused as ever, and so is one at a closed pool.
pub nobody-may-wait : Plays (new_pool_with_bound 1 Fifo None 0 0) (
    start ⇒ party 0 ∷
    poll 0 0 ⇒ object 0 0 ∷
    start_with (Some 0) None None ⇒ party 1 ∷
    poll 1 0 ⇒ failed (Timeout phase.Wait) ∷
    start ⇒ party 2 ∷
    poll 2 0 ⇒ failed Crowded ∷
    status ⇒ stands 1 1 0 0 ∷
    back 0 ⇒ kept ∷
    start ⇒ party 3 ∷
    poll 3 0 ⇒ object 0 0 ∷
    close_pool ⇒ ok ∷
    start ⇒ party 4 ∷
    poll 4 0 ⇒ failed Closed ∷ [])
nobody-may-wait = refl

-- A resize lets those that wait have their places, and so makes room too.
pub resize-makes-room : Plays (new_pool_with_bound 0 Fifo None 0 1) (
    start ⇒ party 0 ∷
    poll 0 0 ⇒ pending ∷
    start ⇒ party 1 ∷
    poll 1 0 ⇒ failed Crowded ∷
    resize_to 1 ⇒ ok ∷
    start ⇒ party 2 ∷
    poll 2 0 ⇒ pending ∷
    poll 0 0 ⇒ object 0 0 ∷ [])
resize-makes-room = refl

-- One whose time is over makes room as well, and is late and not refused for the queue.
pub late-get-makes-room : Plays (new_pool_with_bound 1 Fifo (Some Clock) 0 1) (
    start ⇒ party 0 ∷
    poll 0 0 ⇒ object 0 0 ∷
    start_with (Some 5) None None ⇒ party 1 ∷
    poll 1 0 ⇒ pending ∷
    start_with (Some 5) None None ⇒ party 2 ∷
    poll 2 1 ⇒ failed Crowded ∷
    start_with (Some 0) None None ⇒ party 3 ∷
    poll 3 1 ⇒ failed (Timeout phase.Wait) ∷
    poll 1 5 ⇒ failed (Timeout phase.Wait) ∷
    start_with (Some 5) None None ⇒ party 4 ∷
    poll 4 5 ⇒ pending ∷
    poll 4 6 ⇒ pending ∷ [])
late-get-makes-room = refl

-- With no bound they wait, as in a pool that was opened with none.
pub no-bound : Plays (new_pool 1 Fifo None 0) (
    start ⇒ party 0 ∷
    poll 0 0 ⇒ object 0 0 ∷
    start ⇒ party 1 ∷
    poll 1 0 ⇒ pending ∷
    start ⇒ party 2 ∷
    poll 2 0 ⇒ pending ∷
    start ⇒ party 3 ∷
    poll 3 0 ⇒ pending ∷ [])
no-bound = refl
