-- Worked scripts of deadlines, and gets that are cancelled.
-- Each equation is a script with the reply to each line, and holds by computing.
use Rattle.std.specs.Prelude.{[], ◌∷◌, Some, None, refl}
use Rattle.deadpool_parts.specs.declared.moment.Runtime.TheVariants.{Clock}
use Rattle.deadpool_parts.specs.declared.config.QueueMode.TheVariants.{Fifo}
use Rattle.deadpool_parts.specs.declared.errors.PoolError.TheVariants.{Timeout, Backend, Closed, NoRuntimeSpecified}
use Rattle.deadpool_parts.specs.declared.errors.TimeoutType.TheVariants as phase
use Rattle.deadpool_trial_scripts.specs.Script.{Plays, ◌⇒◌, new_pool, Stalls, Refuses, Create, Recycle, PreRecycle}
use Rattle.deadpool_trial_scripts.specs.Script.{PostRecycle, start, start_with, poll, cancel, back, close_pool, status}
use Rattle.deadpool_trial_scripts.specs.Script.{answer, party, no_such, pending, object, failed, cancelled, ok, kept}
use Rattle.deadpool_trial_scripts.specs.Script.{stands}

-- A get is cancelled while its creation is pending, and is then no such get.
pub cancelled-at-each-pending-call : Plays (new_pool 1 Fifo None 0) (
    answer Create (Stalls ∷ []) ⇒ ok ∷
    start ⇒ party 0 ∷
    poll 0 0 ⇒ pending ∷
    cancel 0 ⇒ cancelled ∷
    cancel 0 ⇒ no_such ∷
    poll 0 0 ⇒ no_such ∷
    status ⇒ stands 1 0 0 0 ∷ [])
cancelled-at-each-pending-call = refl

-- A get with a place is cancelled before it took an object: the place goes to the next.
pub cancelled-while-granted : Plays (new_pool 1 Fifo None 0) (
    start ⇒ party 0 ∷
    poll 0 0 ⇒ object 0 0 ∷
    start ⇒ party 1 ∷
    poll 1 0 ⇒ pending ∷
    start ⇒ party 2 ∷
    poll 2 0 ⇒ pending ∷
    status ⇒ stands 1 1 0 2 ∷
    back 0 ⇒ kept ∷
    status ⇒ stands 1 1 0 1 ∷
    cancel 1 ⇒ cancelled ∷
    status ⇒ stands 1 1 0 0 ∷
    poll 2 0 ⇒ object 0 0 ∷
    status ⇒ stands 1 1 0 0 ∷ [])
cancelled-while-granted = refl

-- A get is cancelled while it prepares an object: the object is given up, and the place goes to the next.
pub cancelled-with-an-idle-object : Plays (new_pool 2 Fifo None 0) (
    start ⇒ party 0 ∷
    poll 0 0 ⇒ object 0 0 ∷
    start ⇒ party 1 ∷
    poll 1 0 ⇒ object 1 1 ∷
    back 0 ⇒ kept ∷
    answer Recycle (Stalls ∷ []) ⇒ ok ∷
    start ⇒ party 2 ∷
    poll 2 0 ⇒ pending ∷
    start ⇒ party 3 ∷
    poll 3 0 ⇒ pending ∷
    status ⇒ stands 2 2 0 1 ∷
    cancel 2 ⇒ cancelled ∷
    status ⇒ stands 2 1 0 1 ∷
    poll 3 0 ⇒ object 2 2 ∷ [])
cancelled-with-an-idle-object = refl

-- The get waited from 3 to 50. Its creation begins at 50.
pub creation-deadline-counts-from-its-beginning : Plays (new_pool 1 Fifo (Some Clock) 0) (
    answer Create (Stalls ∷ Refuses ∷ Stalls ∷ Stalls ∷ []) ⇒ ok ∷
    start ⇒ party 0 ∷
    poll 0 0 ⇒ pending ∷
    start_with None (Some 10) None ⇒ party 1 ∷
    poll 1 3 ⇒ pending ∷
    poll 0 40 ⇒ failed (Backend tt) ∷
    poll 1 50 ⇒ pending ∷
    poll 1 59 ⇒ pending ∷
    answer Create (Stalls ∷ []) ⇒ ok ∷
    poll 1 60 ⇒ failed (Timeout phase.Create) ∷
    status ⇒ stands 1 0 0 0 ∷ [])
creation-deadline-counts-from-its-beginning = refl

-- A creation that is not ready at once has run out of time.
pub creation-timeout-of-zero : Plays (new_pool 16 Fifo (Some Clock) 0) (
    answer Create (Stalls ∷ []) ⇒ ok ∷
    start_with (Some 0) (Some 0) (Some 0) ⇒ party 0 ∷
    poll 0 0 ⇒ failed (Timeout phase.Create) ∷
    status ⇒ stands 16 0 0 0 ∷ [])
creation-timeout-of-zero = refl

-- A deadline stops at the last moment, and is reached there.
pub deadline-at-the-last-moment : Plays (new_pool 1 Fifo (Some Clock) 0) (
    start ⇒ party 0 ∷
    poll 0 0 ⇒ object 0 0 ∷
    start_with (Some 18446744073709551615) None None ⇒ party 1 ∷
    poll 1 340282366920938463463374607431768211455 ⇒ failed (Timeout phase.Wait) ∷ [])
deadline-at-the-last-moment = refl

-- A get that was given a place has it at its deadline too.
pub granted-before-the-clock-is-asked : Plays (new_pool 1 Fifo (Some Clock) 0) (
    start ⇒ party 0 ∷
    poll 0 0 ⇒ object 0 0 ∷
    start_with (Some 10) None None ⇒ party 1 ∷
    poll 1 0 ⇒ pending ∷
    back 0 ⇒ kept ∷
    poll 1 10 ⇒ object 0 0 ∷ [])
granted-before-the-clock-is-asked = refl

-- The hook before the recycling is pending from 5 to 20. The recycling begins at 20.
pub recycling-deadline-counts-from-its-beginning : Plays (new_pool 1 Fifo (Some Clock) 0) (
    start ⇒ party 0 ∷
    poll 0 0 ⇒ object 0 0 ∷
    back 0 ⇒ kept ∷
    answer PreRecycle (Stalls ∷ []) ⇒ ok ∷
    answer Recycle (Stalls ∷ Stalls ∷ Stalls ∷ []) ⇒ ok ∷
    start_with None None (Some 10) ⇒ party 1 ∷
    poll 1 5 ⇒ pending ∷
    poll 1 20 ⇒ pending ∷
    poll 1 29 ⇒ pending ∷
    poll 1 30 ⇒ object 1 1 ∷
    status ⇒ stands 1 1 0 0 ∷ [])
recycling-deadline-counts-from-its-beginning = refl

-- A recycling that is pending at its deadline is over: the object is given up, and a new one is made.
pub recycling-ends-at-its-deadline : Plays (new_pool 1 Fifo (Some Clock) 0) (
    start ⇒ party 0 ∷
    poll 0 0 ⇒ object 0 0 ∷
    back 0 ⇒ kept ∷
    answer Recycle (Stalls ∷ Stalls ∷ Stalls ∷ []) ⇒ ok ∷
    start_with None None (Some 10) ⇒ party 1 ∷
    poll 1 5 ⇒ pending ∷
    poll 1 14 ⇒ pending ∷
    poll 1 15 ⇒ object 1 1 ∷ [])
recycling-ends-at-its-deadline = refl

-- A recycling that is ready at its deadline has ended well.
pub recycling-ready-at-its-deadline : Plays (new_pool 1 Fifo (Some Clock) 0) (
    start ⇒ party 0 ∷
    poll 0 0 ⇒ object 0 0 ∷
    back 0 ⇒ kept ∷
    answer Recycle (Stalls ∷ Stalls ∷ []) ⇒ ok ∷
    start_with None None (Some 10) ⇒ party 1 ∷
    poll 1 5 ⇒ pending ∷
    poll 1 14 ⇒ pending ∷
    poll 1 15 ⇒ object 0 0 ∷ [])
recycling-ready-at-its-deadline = refl

-- Timeouts of a wait and of a creation end the get if no runtime is there. One of a recycling gives the object up.
pub timeouts-without-a-runtime : Plays (new_pool 1 Fifo None 0) (
    start_with (Some 5) None None ⇒ party 0 ∷
    poll 0 0 ⇒ failed NoRuntimeSpecified ∷
    start_with None (Some 5) None ⇒ party 1 ∷
    poll 1 0 ⇒ failed NoRuntimeSpecified ∷
    status ⇒ stands 1 0 0 0 ∷
    start_with None None (Some 5) ⇒ party 2 ∷
    poll 2 0 ⇒ object 0 0 ∷
    back 0 ⇒ kept ∷
    start_with None None (Some 5) ⇒ party 3 ∷
    poll 3 0 ⇒ object 1 1 ∷ [])
timeouts-without-a-runtime = refl

-- A wait lasts until its deadline, and not beyond.
pub wait-ends-at-its-deadline : Plays (new_pool 1 Fifo (Some Clock) 0) (
    start ⇒ party 0 ∷
    poll 0 0 ⇒ object 0 0 ∷
    start_with (Some 10) None None ⇒ party 1 ∷
    poll 1 0 ⇒ pending ∷
    poll 1 9 ⇒ pending ∷
    poll 1 10 ⇒ failed (Timeout phase.Wait) ∷
    status ⇒ stands 1 1 0 0 ∷ [])
wait-ends-at-its-deadline = refl

-- The recycling begins at 20, after the hook before it was pending, and is ready before its deadline at 30.
pub recycling-ready-after-a-pending-hook : Plays (new_pool 1 Fifo (Some Clock) 0) (
    start ⇒ party 0 ∷
    poll 0 0 ⇒ object 0 0 ∷
    back 0 ⇒ kept ∷
    answer PreRecycle (Stalls ∷ []) ⇒ ok ∷
    answer Recycle (Stalls ∷ []) ⇒ ok ∷
    start_with None None (Some 10) ⇒ party 1 ∷
    poll 1 5 ⇒ pending ∷
    poll 1 20 ⇒ pending ∷
    poll 1 29 ⇒ object 0 0 ∷
    status ⇒ stands 1 1 0 0 ∷ [])
recycling-ready-after-a-pending-hook = refl

-- The timeout is of the recycling alone, and not of the hooks before and after it.
pub hooks-have-no-deadline : Plays (new_pool 1 Fifo (Some Clock) 0) (
    start ⇒ party 0 ∷
    poll 0 0 ⇒ object 0 0 ∷
    back 0 ⇒ kept ∷
    answer PreRecycle (Stalls ∷ Stalls ∷ []) ⇒ ok ∷
    answer PostRecycle (Stalls ∷ Stalls ∷ []) ⇒ ok ∷
    start_with None None (Some 10) ⇒ party 1 ∷
    poll 1 5 ⇒ pending ∷
    poll 1 20 ⇒ pending ∷
    poll 1 40 ⇒ pending ∷
    poll 1 60 ⇒ pending ∷
    poll 1 80 ⇒ object 0 0 ∷ [])
hooks-have-no-deadline = refl

-- A get that was given a place, and is past its deadline, is told of the close.
pub close-before-the-clock-is-asked : Plays (new_pool 1 Fifo (Some Clock) 0) (
    start ⇒ party 0 ∷
    poll 0 0 ⇒ object 0 0 ∷
    start_with (Some 10) None None ⇒ party 1 ∷
    poll 1 0 ⇒ pending ∷
    back 0 ⇒ kept ∷
    close_pool ⇒ ok ∷
    poll 1 10 ⇒ failed Closed ∷
    status ⇒ stands 0 0 0 0 ∷ [])
close-before-the-clock-is-asked = refl
