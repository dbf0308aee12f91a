-- Worked scripts of pools that close while something is out.
-- Each equation is a script with the reply to each line, and holds by computing.
use Rattle.std.specs.Prelude.{[], ◌∷◌, None, refl}
use Rattle.deadpool_parts.specs.declared.config.QueueMode.TheVariants.{Fifo, Lifo}
use Rattle.deadpool_parts.specs.declared.errors.PoolError.TheVariants.{Closed}
use Rattle.deadpool_trial_scripts.specs.Script.{Plays, ◌⇒◌, new_pool, answer, start, poll, cancel, back, take_out}
use Rattle.deadpool_trial_scripts.specs.Script.{resize_to, drain, status, drop_handle, Create, PreRecycle, Stalls, Fine}
use Rattle.deadpool_trial_scripts.specs.Script.{Refuses, party, pending, object, failed, ok, kept, detached, cancelled}
use Rattle.deadpool_trial_scripts.specs.Script.{taken, stands, has_left, drained, no_handle}

-- Two are out: the pool is drained once both have come back or left. One that waits is refused, and is not waited for.
pub drained-by-the-last-return : Plays (new_pool 2 Fifo None 0) (
    start ⇒ party 0 ∷
    poll 0 0 ⇒ object 0 0 ∷
    start ⇒ party 1 ∷
    poll 1 0 ⇒ object 1 1 ∷
    start ⇒ party 2 ∷
    poll 2 0 ⇒ pending ∷
    drain ⇒ has_left 2 ∷
    poll 2 0 ⇒ failed Closed ∷
    back 0 ⇒ detached ∷
    drain ⇒ has_left 1 ∷
    take_out 1 ⇒ taken 1 ∷
    drain ⇒ drained ∷
    status ⇒ stands 0 0 0 0 ∷ [])
drained-by-the-last-return = refl

-- A creation under way is waited for, and its object after it.
pub drain-waits-for-a-creation : Plays (new_pool 1 Fifo None 0) (
    answer Create (Stalls ∷ Fine ∷ []) ⇒ ok ∷
    start ⇒ party 0 ∷
    poll 0 0 ⇒ pending ∷
    drain ⇒ has_left 1 ∷
    status ⇒ stands 0 0 0 1 ∷
    poll 0 0 ⇒ object 0 0 ∷
    drain ⇒ has_left 1 ∷
    back 0 ⇒ detached ∷
    drain ⇒ drained ∷
    answer Create (Stalls ∷ Refuses ∷ []) ⇒ ok ∷
    start ⇒ party 1 ∷
    poll 1 0 ⇒ failed Closed ∷ [])
drain-waits-for-a-creation = refl

-- An object under preparation is waited for. Its get may be given up, and the object goes with it.
pub drain-waits-for-a-preparation : Plays (new_pool 1 Lifo None 0) (
    start ⇒ party 0 ∷
    poll 0 0 ⇒ object 0 0 ∷
    back 0 ⇒ kept ∷
    answer PreRecycle (Stalls ∷ []) ⇒ ok ∷
    start ⇒ party 1 ∷
    poll 1 0 ⇒ pending ∷
    drain ⇒ has_left 1 ∷
    cancel 1 ⇒ cancelled ∷
    drain ⇒ drained ∷ [])
drain-waits-for-a-preparation = refl

-- A get that was granted a place and has not asked holds nothing.
pub granted-get-is-not-waited-for : Plays (new_pool 1 Fifo None 0) (
    start ⇒ party 0 ∷
    poll 0 0 ⇒ object 0 0 ∷
    start ⇒ party 1 ∷
    poll 1 0 ⇒ pending ∷
    back 0 ⇒ kept ∷
    drain ⇒ drained ∷
    poll 1 0 ⇒ failed Closed ∷
    drain ⇒ drained ∷ [])
granted-get-is-not-waited-for = refl

-- Nothing is out: what is idle goes with the close. Without a handle nobody closes it.
pub drained-at-once : Plays (new_pool 2 Fifo None 0) (
    start ⇒ party 0 ∷
    poll 0 0 ⇒ object 0 0 ∷
    back 0 ⇒ kept ∷
    drain ⇒ drained ∷
    resize_to 1 ⇒ ok ∷
    drain ⇒ drained ∷
    drop_handle ⇒ ok ∷
    drain ⇒ no_handle ∷ [])
drained-at-once = refl
