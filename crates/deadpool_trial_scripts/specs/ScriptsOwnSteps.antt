-- Worked scripts of what a pool's owner does: another limit, a close, objects taken or not kept, handles.
-- Each equation is a script with the reply to each line, and holds by computing.
use Rattle.std.specs.Prelude.{true, false, [], ◌∷◌, Some, None, refl}
use Rattle.deadpool_parts.specs.declared.config.QueueMode.TheVariants.{Fifo, Lifo}
use Rattle.deadpool_parts.specs.declared.errors.PoolError.TheVariants.{Timeout, Closed}
use Rattle.deadpool_parts.specs.declared.errors.TimeoutType.TheVariants as phase
use Rattle.deadpool_trial_scripts.specs.Script.{Plays, ◌⇒◌, new_pool, Stalls, Refuses, Create, Recycle, start}
use Rattle.deadpool_trial_scripts.specs.Script.{start_with, advance, poll, cancel, put, back, take_out, resize_to}
use Rattle.deadpool_trial_scripts.specs.Script.{retain_only, close_pool, status, clone_handle, drop_handle}
use Rattle.deadpool_trial_scripts.specs.Script.{upgrade_handle, answer, party, no_such, no_handle, more, pending}
use Rattle.deadpool_trial_scripts.specs.Script.{object, failed, cancelled, ok, kept, detached, dropped, taken, retained}
use Rattle.deadpool_trial_scripts.specs.Script.{stands, upgraded}

-- The idle object goes with the last handle.
pub clone-and-two-drops : Plays (new_pool 1 Fifo None 0) (
    start ⇒ party 0 ∷
    poll 0 0 ⇒ object 0 0 ∷
    back 0 ⇒ kept ∷
    clone_handle ⇒ ok ∷
    drop_handle ⇒ ok ∷
    status ⇒ stands 1 1 1 0 ∷
    upgrade_handle ⇒ upgraded true ∷
    drop_handle ⇒ ok ∷
    status ⇒ stands 1 1 1 0 ∷
    drop_handle ⇒ ok ∷
    status ⇒ no_handle ∷
    upgrade_handle ⇒ upgraded false ∷ [])
clone-and-two-drops = refl

-- A close ends the get that waits, and one that comes later. An object that was out is given up when it comes back. A
-- closed pool takes no other limit.
pub close : Plays (new_pool 1 Fifo None 0) (
    start ⇒ party 0 ∷
    poll 0 0 ⇒ object 0 0 ∷
    start ⇒ party 1 ∷
    poll 1 0 ⇒ pending ∷
    close_pool ⇒ ok ∷
    status ⇒ stands 0 1 0 1 ∷
    poll 1 0 ⇒ failed Closed ∷
    status ⇒ stands 0 1 0 0 ∷
    start ⇒ party 2 ∷
    poll 2 0 ⇒ failed Closed ∷
    back 0 ⇒ detached ∷
    status ⇒ stands 0 0 0 0 ∷
    resize_to 16 ⇒ ok ∷
    status ⇒ stands 0 0 0 0 ∷ [])
close = refl

-- A get that used its allowance up keeps its place over a close, and goes on.
pub going-over-a-close : Plays (new_pool 3 Fifo None 0) (
    start ⇒ party 0 ∷
    poll 0 0 ⇒ object 0 0 ∷
    start ⇒ party 1 ∷
    poll 1 0 ⇒ object 1 1 ∷
    start ⇒ party 2 ∷
    poll 2 0 ⇒ object 2 2 ∷
    back 0 ⇒ kept ∷
    answer Recycle (Refuses ∷ []) ⇒ ok ∷
    start ⇒ party 3 ∷
    advance 3 0 ⇒ more ∷
    advance 3 0 ⇒ more ∷
    status ⇒ stands 3 2 0 1 ∷
    back 1 ⇒ kept ∷
    advance 3 0 ⇒ pending ∷
    close_pool ⇒ ok ∷
    status ⇒ stands 0 1 0 1 ∷
    poll 3 0 ⇒ object 3 3 ∷
    status ⇒ stands 0 2 0 0 ∷
    back 3 ⇒ detached ∷
    back 2 ⇒ detached ∷
    status ⇒ stands 0 0 0 0 ∷ [])
going-over-a-close = refl

-- The same, with the state after each return.
pub going-over-a-close-status : Plays (new_pool 3 Fifo None 0) (
    start ⇒ party 0 ∷
    poll 0 0 ⇒ object 0 0 ∷
    start ⇒ party 1 ∷
    poll 1 0 ⇒ object 1 1 ∷
    start ⇒ party 2 ∷
    poll 2 0 ⇒ object 2 2 ∷
    back 0 ⇒ kept ∷
    answer Recycle (Refuses ∷ []) ⇒ ok ∷
    start ⇒ party 3 ∷
    advance 3 0 ⇒ more ∷
    advance 3 0 ⇒ more ∷
    back 1 ⇒ kept ∷
    advance 3 0 ⇒ pending ∷
    close_pool ⇒ ok ∷
    status ⇒ stands 0 1 0 1 ∷
    poll 3 0 ⇒ object 3 3 ∷
    status ⇒ stands 0 2 0 0 ∷
    back 3 ⇒ detached ∷
    status ⇒ stands 0 1 0 0 ∷
    back 2 ⇒ detached ∷
    status ⇒ stands 0 0 0 0 ∷ [])
going-over-a-close-status = refl

-- A get that was given a place by a return ends with the close.
pub granted-get-after-a-close : Plays (new_pool 1 Fifo None 0) (
    start ⇒ party 0 ∷
    poll 0 0 ⇒ object 0 0 ∷
    start ⇒ party 1 ∷
    poll 1 0 ⇒ pending ∷
    back 0 ⇒ kept ∷
    status ⇒ stands 1 1 0 0 ∷
    close_pool ⇒ ok ∷
    poll 1 0 ⇒ failed Closed ∷
    status ⇒ stands 0 0 0 0 ∷ [])
granted-get-after-a-close = refl

-- The only object is out all the while, and is kept when it comes back.
pub grow-shrink-grow : Plays (new_pool 1 Fifo None 0) (
    start ⇒ party 0 ∷
    poll 0 0 ⇒ object 0 0 ∷
    resize_to 2 ⇒ ok ∷
    resize_to 0 ⇒ ok ∷
    resize_to 5 ⇒ ok ∷
    status ⇒ stands 5 1 0 0 ∷
    back 0 ⇒ kept ∷
    status ⇒ stands 5 1 1 0 ∷ [])
grow-shrink-grow = refl

-- A growth gives a place to the get that waits.
pub growth-grants-a-waiter : Plays (new_pool 0 Fifo None 0) (
    start ⇒ party 0 ∷
    poll 0 0 ⇒ pending ∷
    status ⇒ stands 0 0 0 1 ∷
    resize_to 1 ⇒ ok ∷
    status ⇒ stands 1 0 0 1 ∷
    poll 0 0 ⇒ object 0 0 ∷
    status ⇒ stands 1 1 0 0 ∷
    back 0 ⇒ kept ∷
    status ⇒ stands 1 1 1 0 ∷ [])
growth-grants-a-waiter = refl

-- A growth by two gives places to the first two of three that wait.
pub growth-grants-the-first-in-order : Plays (new_pool 1 Fifo None 0) (
    start ⇒ party 0 ∷
    poll 0 0 ⇒ object 0 0 ∷
    start ⇒ party 1 ∷
    poll 1 0 ⇒ pending ∷
    start ⇒ party 2 ∷
    poll 2 0 ⇒ pending ∷
    start ⇒ party 3 ∷
    poll 3 0 ⇒ pending ∷
    resize_to 3 ⇒ ok ∷
    poll 3 0 ⇒ pending ∷
    poll 1 0 ⇒ object 1 1 ∷
    poll 2 0 ⇒ object 2 2 ∷
    status ⇒ stands 3 3 0 1 ∷ [])
growth-grants-the-first-in-order = refl

-- With the last handle gone, an object that comes back is dropped.
pub last-handle-dropped : Plays (new_pool 1 Fifo None 0) (
    start ⇒ party 0 ∷
    poll 0 0 ⇒ object 0 0 ∷
    drop_handle ⇒ ok ∷
    upgrade_handle ⇒ upgraded false ∷
    back 0 ⇒ dropped ∷
    status ⇒ no_handle ∷ [])
last-handle-dropped = refl

-- An object that is taken has the value that was put last.
pub put-is-seen-by-take : Plays (new_pool 1 Fifo None 0) (
    start ⇒ party 0 ∷
    poll 0 0 ⇒ object 0 0 ∷
    put 0 9 ⇒ ok ∷
    put 4 1 ⇒ no_such ∷
    take_out 0 ⇒ taken 9 ∷
    status ⇒ stands 1 0 0 0 ∷ [])
put-is-seen-by-take = refl

-- A limit that falls and rises again leaves as many places as before.
pub resize-within-size-and-back : Plays (new_pool 10 Fifo None 0) (
    resize_to 5 ⇒ ok ∷
    resize_to 10 ⇒ ok ∷
    start_with (Some 0) None None ⇒ party 0 ∷
    poll 0 0 ⇒ object 0 0 ∷
    start_with (Some 0) None None ⇒ party 1 ∷
    poll 1 0 ⇒ object 1 1 ∷
    start_with (Some 0) None None ⇒ party 2 ∷
    poll 2 0 ⇒ object 2 2 ∷
    start_with (Some 0) None None ⇒ party 3 ∷
    poll 3 0 ⇒ object 3 3 ∷
    start_with (Some 0) None None ⇒ party 4 ∷
    poll 4 0 ⇒ object 4 4 ∷
    start_with (Some 0) None None ⇒ party 5 ∷
    poll 5 0 ⇒ object 5 5 ∷
    start_with (Some 0) None None ⇒ party 6 ∷
    poll 6 0 ⇒ object 6 6 ∷
    start_with (Some 0) None None ⇒ party 7 ∷
    poll 7 0 ⇒ object 7 7 ∷
    start_with (Some 0) None None ⇒ party 8 ∷
    poll 8 0 ⇒ object 8 8 ∷
    start_with (Some 0) None None ⇒ party 9 ∷
    poll 9 0 ⇒ object 9 9 ∷
    start_with (Some 0) None None ⇒ party 10 ∷
    poll 10 0 ⇒ failed (Timeout phase.Wait) ∷ [])
resize-within-size-and-back = refl

-- The idle objects 1 and 3 are kept, in their order.
pub retain : Plays (new_pool 4 Lifo None 0) (
    start ⇒ party 0 ∷
    poll 0 0 ⇒ object 0 0 ∷
    start ⇒ party 1 ∷
    poll 1 0 ⇒ object 1 1 ∷
    start ⇒ party 2 ∷
    poll 2 0 ⇒ object 2 2 ∷
    start ⇒ party 3 ∷
    poll 3 0 ⇒ object 3 3 ∷
    back 0 ⇒ kept ∷
    back 1 ⇒ kept ∷
    back 2 ⇒ kept ∷
    back 3 ⇒ kept ∷
    retain_only (1 ∷ 3 ∷ []) ⇒ retained 2 (0 ∷ 2 ∷ []) ∷
    status ⇒ stands 4 2 2 0 ∷
    start ⇒ party 4 ∷
    poll 4 0 ⇒ object 3 3 ∷
    resize_to 1 ⇒ ok ∷
    status ⇒ stands 1 1 0 0 ∷ [])
retain = refl

-- An object that comes back above the limit is given up.
pub shrink-and-grow-with-objects-out : Plays (new_pool 2 Fifo None 0) (
    start ⇒ party 0 ∷
    poll 0 0 ⇒ object 0 0 ∷
    start ⇒ party 1 ∷
    poll 1 0 ⇒ object 1 1 ∷
    status ⇒ stands 2 2 0 0 ∷
    resize_to 0 ⇒ ok ∷
    status ⇒ stands 0 2 0 0 ∷
    resize_to 1 ⇒ ok ∷
    status ⇒ stands 1 2 0 0 ∷
    back 0 ⇒ detached ∷
    status ⇒ stands 1 1 0 0 ∷
    back 1 ⇒ kept ∷
    status ⇒ stands 1 1 1 0 ∷ [])
shrink-and-grow-with-objects-out = refl

-- A shrink drops those that came back first, also if the last one is handed out first.
pub shrink-drops-the-oldest : Plays (new_pool 3 Lifo None 0) (
    start ⇒ party 0 ∷
    poll 0 0 ⇒ object 0 0 ∷
    start ⇒ party 1 ∷
    poll 1 0 ⇒ object 1 1 ∷
    start ⇒ party 2 ∷
    poll 2 0 ⇒ object 2 2 ∷
    back 1 ⇒ kept ∷
    back 0 ⇒ kept ∷
    back 2 ⇒ kept ∷
    resize_to 1 ⇒ ok ∷
    status ⇒ stands 1 1 1 0 ∷
    start ⇒ party 3 ∷
    poll 3 0 ⇒ object 2 2 ∷ [])
shrink-drops-the-oldest = refl

-- The limit fell before the first get: one place is there.
pub shrink-leaves-no-place-over : Plays (new_pool 2 Fifo None 0) (
    resize_to 1 ⇒ ok ∷
    start_with (Some 0) None None ⇒ party 0 ∷
    poll 0 0 ⇒ object 0 0 ∷
    start_with (Some 0) None None ⇒ party 1 ∷
    poll 1 0 ⇒ failed (Timeout phase.Wait) ∷ [])
shrink-leaves-no-place-over = refl

-- The place of the object that is out is not free.
pub shrink-to-zero-and-grow : Plays (new_pool 1 Fifo None 0) (
    start ⇒ party 0 ∷
    poll 0 0 ⇒ object 0 0 ∷
    resize_to 0 ⇒ ok ∷
    resize_to 1 ⇒ ok ∷
    start_with (Some 0) None None ⇒ party 1 ∷
    poll 1 0 ⇒ failed (Timeout phase.Wait) ∷
    status ⇒ stands 1 1 0 0 ∷ [])
shrink-to-zero-and-grow = refl

-- A get keeps the place that it was given over a shrink. A growth gives the other none, since two places are taken.
pub shrink-under-a-granted-get : Plays (new_pool 2 Fifo None 0) (
    start ⇒ party 0 ∷
    poll 0 0 ⇒ object 0 0 ∷
    start ⇒ party 1 ∷
    poll 1 0 ⇒ object 1 1 ∷
    start ⇒ party 2 ∷
    poll 2 0 ⇒ pending ∷
    start ⇒ party 3 ∷
    poll 3 0 ⇒ pending ∷
    back 0 ⇒ kept ∷
    status ⇒ stands 2 2 0 1 ∷
    resize_to 0 ⇒ ok ∷
    status ⇒ stands 0 1 0 2 ∷
    resize_to 2 ⇒ ok ∷
    poll 3 0 ⇒ pending ∷
    poll 2 0 ⇒ object 2 2 ∷
    status ⇒ stands 2 2 0 1 ∷ [])
shrink-under-a-granted-get = refl

-- An object that is taken leaves its place free.
pub take : Plays (new_pool 2 Fifo None 0) (
    start ⇒ party 0 ∷
    poll 0 0 ⇒ object 0 0 ∷
    start ⇒ party 1 ∷
    poll 1 0 ⇒ object 1 1 ∷
    status ⇒ stands 2 2 0 0 ∷
    take_out 0 ⇒ taken 0 ∷
    status ⇒ stands 2 1 0 0 ∷
    take_out 1 ⇒ taken 1 ∷
    status ⇒ stands 2 0 0 0 ∷
    start ⇒ party 2 ∷
    poll 2 0 ⇒ object 2 2 ∷
    start ⇒ party 3 ∷
    poll 3 0 ⇒ object 3 3 ∷
    status ⇒ stands 2 2 0 0 ∷
    back 2 ⇒ kept ∷
    back 3 ⇒ kept ∷
    status ⇒ stands 2 2 2 0 ∷ [])
take = refl

-- Three wait, and a growth by two gives places to the first two, whichever of them is polled first. The third has the
-- place of an object that comes back.
pub growth-grants-two-of-three : Plays (new_pool 1 Lifo None 0) (
    start ⇒ party 0 ∷
    poll 0 0 ⇒ object 0 0 ∷
    start ⇒ party 1 ∷
    poll 1 0 ⇒ pending ∷
    start ⇒ party 2 ∷
    poll 2 0 ⇒ pending ∷
    start ⇒ party 3 ∷
    poll 3 0 ⇒ pending ∷
    status ⇒ stands 1 1 0 3 ∷
    resize_to 3 ⇒ ok ∷
    status ⇒ stands 3 1 0 3 ∷
    poll 3 0 ⇒ pending ∷
    poll 2 0 ⇒ object 1 1 ∷
    status ⇒ stands 3 2 0 2 ∷
    poll 1 0 ⇒ object 2 2 ∷
    status ⇒ stands 3 3 0 1 ∷
    back 0 ⇒ kept ∷
    poll 3 0 ⇒ object 0 0 ∷ [])
growth-grants-two-of-three = refl

-- The first two of three have the places of the growth. The first is cancelled, and its place goes to the third.
pub growth-from-nothing-grants-in-order : Plays (new_pool 0 Fifo None 0) (
    start ⇒ party 0 ∷
    poll 0 0 ⇒ pending ∷
    start ⇒ party 1 ∷
    poll 1 0 ⇒ pending ∷
    start ⇒ party 2 ∷
    poll 2 0 ⇒ pending ∷
    resize_to 2 ⇒ ok ∷
    status ⇒ stands 2 0 0 3 ∷
    poll 2 0 ⇒ pending ∷
    cancel 0 ⇒ cancelled ∷
    status ⇒ stands 2 0 0 2 ∷
    poll 2 0 ⇒ object 0 0 ∷
    poll 1 0 ⇒ object 1 1 ∷
    status ⇒ stands 2 2 0 0 ∷ [])
growth-from-nothing-grants-in-order = refl

-- A get that was given a place by a growth ends with the close.
pub get-granted-by-a-growth-after-a-close : Plays (new_pool 0 Fifo None 0) (
    start ⇒ party 0 ∷
    poll 0 0 ⇒ pending ∷
    resize_to 1 ⇒ ok ∷
    status ⇒ stands 1 0 0 1 ∷
    close_pool ⇒ ok ∷
    status ⇒ stands 0 0 0 1 ∷
    poll 0 0 ⇒ failed Closed ∷
    status ⇒ stands 0 0 0 0 ∷
    poll 0 0 ⇒ pending ∷ [])
get-granted-by-a-growth-after-a-close = refl

-- The idle objects are 1, 0 and 2, front to back. The shrink drops 1.
pub shrink-drops-the-front-where-the-first-is-next : Plays (new_pool 3 Fifo None 0) (
    start ⇒ party 0 ∷
    poll 0 0 ⇒ object 0 0 ∷
    start ⇒ party 1 ∷
    poll 1 0 ⇒ object 1 1 ∷
    start ⇒ party 2 ∷
    poll 2 0 ⇒ object 2 2 ∷
    back 1 ⇒ kept ∷
    back 0 ⇒ kept ∷
    back 2 ⇒ kept ∷
    resize_to 2 ⇒ ok ∷
    status ⇒ stands 2 2 2 0 ∷
    start ⇒ party 3 ∷
    poll 3 0 ⇒ object 0 0 ∷
    start ⇒ party 4 ∷
    poll 4 0 ⇒ object 2 2 ∷
    status ⇒ stands 2 2 0 0 ∷ [])
shrink-drops-the-front-where-the-first-is-next = refl

-- The same pool, but for its mode: the shrink drops 1 here too.
pub shrink-drops-the-front-where-the-last-is-next : Plays (new_pool 3 Lifo None 0) (
    start ⇒ party 0 ∷
    poll 0 0 ⇒ object 0 0 ∷
    start ⇒ party 1 ∷
    poll 1 0 ⇒ object 1 1 ∷
    start ⇒ party 2 ∷
    poll 2 0 ⇒ object 2 2 ∷
    back 1 ⇒ kept ∷
    back 0 ⇒ kept ∷
    back 2 ⇒ kept ∷
    resize_to 2 ⇒ ok ∷
    status ⇒ stands 2 2 2 0 ∷
    start ⇒ party 3 ∷
    poll 3 0 ⇒ object 2 2 ∷
    start ⇒ party 4 ∷
    poll 4 0 ⇒ object 0 0 ∷
    status ⇒ stands 2 2 0 0 ∷ [])
shrink-drops-the-front-where-the-last-is-next = refl

-- The place of the creation under way is the only one. The object that was taken leaves none to the last get.
pub take-after-a-shrink-leaves-no-place-over : Plays (new_pool 2 Fifo None 0) (
    start ⇒ party 0 ∷
    poll 0 0 ⇒ object 0 0 ∷
    answer Create (Stalls ∷ []) ⇒ ok ∷
    start ⇒ party 1 ∷
    poll 1 0 ⇒ pending ∷
    resize_to 1 ⇒ ok ∷
    take_out 0 ⇒ taken 0 ∷
    start ⇒ party 2 ∷
    poll 2 0 ⇒ pending ∷
    status ⇒ stands 1 0 0 2 ∷ [])
take-after-a-shrink-leaves-no-place-over = refl

-- The limit fell to nothing before the get with the creation was cancelled.
pub cancel-after-a-shrink-leaves-no-place-over : Plays (new_pool 1 Fifo None 0) (
    answer Create (Stalls ∷ []) ⇒ ok ∷
    start ⇒ party 0 ∷
    poll 0 0 ⇒ pending ∷
    resize_to 0 ⇒ ok ∷
    cancel 0 ⇒ cancelled ∷
    start_with (Some 0) None None ⇒ party 1 ∷
    poll 1 0 ⇒ failed (Timeout phase.Wait) ∷
    status ⇒ stands 0 0 0 0 ∷ [])
cancel-after-a-shrink-leaves-no-place-over = refl

-- The object that came back is idle, but the creation under way has the only place.
pub return-after-a-shrink-leaves-no-place-over : Plays (new_pool 2 Fifo None 0) (
    start ⇒ party 0 ∷
    poll 0 0 ⇒ object 0 0 ∷
    answer Create (Stalls ∷ []) ⇒ ok ∷
    start ⇒ party 1 ∷
    poll 1 0 ⇒ pending ∷
    resize_to 1 ⇒ ok ∷
    back 0 ⇒ kept ∷
    start_with (Some 0) None None ⇒ party 2 ∷
    poll 2 0 ⇒ failed (Timeout phase.Wait) ∷
    status ⇒ stands 1 1 0 0 ∷ [])
return-after-a-shrink-leaves-no-place-over = refl

-- The shrink drops the idle object, and its place is gone with it.
pub shrink-below-the-idle-leaves-no-place-over : Plays (new_pool 2 Fifo None 0) (
    start ⇒ party 0 ∷
    poll 0 0 ⇒ object 0 0 ∷
    back 0 ⇒ kept ∷
    resize_to 0 ⇒ ok ∷
    start_with (Some 0) None None ⇒ party 1 ∷
    poll 1 0 ⇒ failed (Timeout phase.Wait) ∷
    status ⇒ stands 0 0 0 0 ∷ [])
shrink-below-the-idle-leaves-no-place-over = refl
