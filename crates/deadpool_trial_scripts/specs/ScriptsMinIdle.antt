-- Worked scripts of pools that keep a least number of objects idle.
-- Each equation is a script with the reply to each line, and holds by computing.
use Rattle.std.specs.Prelude.{false, [], ◌∷◌, Some, None, refl}
use Rattle.deadpool_parts.specs.declared.config.QueueMode.TheVariants.{Fifo}
use Rattle.deadpool_parts.specs.declared.errors.PoolError.TheVariants.{Timeout}
use Rattle.deadpool_parts.specs.declared.errors.TimeoutType.TheVariants as phase
use Rattle.deadpool_trial_scripts.specs.Script.{Plays, ◌⇒◌, new_pool_with_min_idle, Stalls, Recycle, start, start_with}
use Rattle.deadpool_trial_scripts.specs.Script.{poll, back, resize_to, retain_only, close_pool, drop_handle}
use Rattle.deadpool_trial_scripts.specs.Script.{upgrade_handle, status, answer, party, no_handle, pending, object}
use Rattle.deadpool_trial_scripts.specs.Script.{failed, ok, kept, detached, dropped, retained, stands, upgraded}

-- A shrink leaves two idle while the others are out, and a get has no place all the same. A smaller limit leaves one,
-- and a close none.
pub floor-under-shrink-and-retain : Plays (new_pool_with_min_idle 4 Fifo None 0 2) (
    start ⇒ party 0 ∷
    poll 0 0 ⇒ object 0 0 ∷
    start ⇒ party 1 ∷
    poll 1 0 ⇒ object 1 1 ∷
    start ⇒ party 2 ∷
    poll 2 0 ⇒ object 2 2 ∷
    start ⇒ party 3 ∷
    poll 3 0 ⇒ object 3 3 ∷
    back 0 ⇒ kept ∷
    back 1 ⇒ kept ∷
    resize_to 2 ⇒ ok ∷
    status ⇒ stands 2 4 2 0 ∷
    start_with (Some 0) None None ⇒ party 4 ∷
    poll 4 0 ⇒ failed (Timeout phase.Wait) ∷
    back 2 ⇒ detached ∷
    back 3 ⇒ detached ∷
    status ⇒ stands 2 2 2 0 ∷
    retain_only [] ⇒ retained 2 [] ∷
    resize_to 1 ⇒ ok ∷
    status ⇒ stands 1 1 1 0 ∷
    close_pool ⇒ ok ∷
    status ⇒ stands 0 0 0 0 ∷ [])
floor-under-shrink-and-retain = refl

-- Nothing is kept, and the last stays.
pub retain-keeps-the-floor : Plays (new_pool_with_min_idle 3 Fifo None 0 1) (
    start ⇒ party 0 ∷
    poll 0 0 ⇒ object 0 0 ∷
    start ⇒ party 1 ∷
    poll 1 0 ⇒ object 1 1 ∷
    start ⇒ party 2 ∷
    poll 2 0 ⇒ object 2 2 ∷
    back 0 ⇒ kept ∷
    back 1 ⇒ kept ∷
    back 2 ⇒ kept ∷
    retain_only [] ⇒ retained 1 (0 ∷ 1 ∷ []) ∷ [])
retain-keeps-the-floor = refl

-- As many stay as the limit allows. A close leaves none.
pub floor-above-the-limit : Plays (new_pool_with_min_idle 2 Fifo None 0 5) (
    start ⇒ party 0 ∷
    poll 0 0 ⇒ object 0 0 ∷
    start ⇒ party 1 ∷
    poll 1 0 ⇒ object 1 1 ∷
    back 0 ⇒ kept ∷
    back 1 ⇒ kept ∷
    retain_only [] ⇒ retained 2 [] ∷
    resize_to 1 ⇒ ok ∷
    status ⇒ stands 1 1 1 0 ∷
    start ⇒ party 2 ∷
    poll 2 0 ⇒ object 1 1 ∷
    back 1 ⇒ kept ∷
    resize_to 3 ⇒ ok ∷
    status ⇒ stands 3 1 1 0 ∷
    close_pool ⇒ ok ∷
    status ⇒ stands 0 0 0 0 ∷ [])
floor-above-the-limit = refl

-- Four are idle and three are to stay. A limit of two leaves two, the last of them.
pub floor-above-a-smaller-limit : Plays (new_pool_with_min_idle 4 Fifo None 0 3) (
    start ⇒ party 0 ∷
    poll 0 0 ⇒ object 0 0 ∷
    start ⇒ party 1 ∷
    poll 1 0 ⇒ object 1 1 ∷
    start ⇒ party 2 ∷
    poll 2 0 ⇒ object 2 2 ∷
    start ⇒ party 3 ∷
    poll 3 0 ⇒ object 3 3 ∷
    back 0 ⇒ kept ∷
    back 1 ⇒ kept ∷
    back 2 ⇒ kept ∷
    back 3 ⇒ kept ∷
    resize_to 2 ⇒ ok ∷
    status ⇒ stands 2 2 2 0 ∷
    start ⇒ party 4 ∷
    poll 4 0 ⇒ object 2 2 ∷ [])
floor-above-a-smaller-limit = refl

-- One object is under preparation and one is out. The limit of one leaves one idle, and the others are given up as they
-- come back.
pub floor-beside-objects-in-use : Plays (new_pool_with_min_idle 4 Fifo None 0 1) (
    start ⇒ party 0 ∷
    poll 0 0 ⇒ object 0 0 ∷
    start ⇒ party 1 ∷
    poll 1 0 ⇒ object 1 1 ∷
    start ⇒ party 2 ∷
    poll 2 0 ⇒ object 2 2 ∷
    start ⇒ party 3 ∷
    poll 3 0 ⇒ object 3 3 ∷
    back 0 ⇒ kept ∷
    back 1 ⇒ kept ∷
    back 2 ⇒ kept ∷
    answer Recycle (Stalls ∷ []) ⇒ ok ∷
    start ⇒ party 4 ∷
    poll 4 0 ⇒ pending ∷
    resize_to 1 ⇒ ok ∷
    status ⇒ stands 1 3 1 0 ∷
    back 3 ⇒ detached ∷
    status ⇒ stands 1 2 1 0 ∷
    poll 4 0 ⇒ object 0 0 ∷
    back 0 ⇒ detached ∷
    status ⇒ stands 1 1 1 0 ∷
    start ⇒ party 5 ∷
    poll 5 0 ⇒ object 2 2 ∷ [])
floor-beside-objects-in-use = refl

-- The first three go, front to back, and the last two stay.
pub retain-rejects-all-of-five : Plays (new_pool_with_min_idle 5 Fifo None 0 2) (
    start ⇒ party 0 ∷
    poll 0 0 ⇒ object 0 0 ∷
    start ⇒ party 1 ∷
    poll 1 0 ⇒ object 1 1 ∷
    start ⇒ party 2 ∷
    poll 2 0 ⇒ object 2 2 ∷
    start ⇒ party 3 ∷
    poll 3 0 ⇒ object 3 3 ∷
    start ⇒ party 4 ∷
    poll 4 0 ⇒ object 4 4 ∷
    back 0 ⇒ kept ∷
    back 1 ⇒ kept ∷
    back 2 ⇒ kept ∷
    back 3 ⇒ kept ∷
    back 4 ⇒ kept ∷
    retain_only [] ⇒ retained 2 (0 ∷ 1 ∷ 2 ∷ []) ∷
    status ⇒ stands 5 2 2 0 ∷
    start ⇒ party 5 ∷
    poll 5 0 ⇒ object 3 3 ∷ [])
retain-rejects-all-of-five = refl

-- The first is kept. The next three go, and the last stays.
pub retain-keeps-one-and-the-floor : Plays (new_pool_with_min_idle 5 Fifo None 0 2) (
    start ⇒ party 0 ∷
    poll 0 0 ⇒ object 0 0 ∷
    start ⇒ party 1 ∷
    poll 1 0 ⇒ object 1 1 ∷
    start ⇒ party 2 ∷
    poll 2 0 ⇒ object 2 2 ∷
    start ⇒ party 3 ∷
    poll 3 0 ⇒ object 3 3 ∷
    start ⇒ party 4 ∷
    poll 4 0 ⇒ object 4 4 ∷
    back 0 ⇒ kept ∷
    back 1 ⇒ kept ∷
    back 2 ⇒ kept ∷
    back 3 ⇒ kept ∷
    back 4 ⇒ kept ∷
    retain_only (0 ∷ []) ⇒ retained 2 (1 ∷ 2 ∷ 3 ∷ []) ∷
    start ⇒ party 5 ∷
    poll 5 0 ⇒ object 0 0 ∷
    start ⇒ party 6 ∷
    poll 6 0 ⇒ object 4 4 ∷ [])
retain-keeps-one-and-the-floor = refl

-- Two are left when the fourth is asked about, so it stays beside the last, which is kept.
pub retain-spares-before-it-keeps : Plays (new_pool_with_min_idle 5 Fifo None 0 2) (
    start ⇒ party 0 ∷
    poll 0 0 ⇒ object 0 0 ∷
    start ⇒ party 1 ∷
    poll 1 0 ⇒ object 1 1 ∷
    start ⇒ party 2 ∷
    poll 2 0 ⇒ object 2 2 ∷
    start ⇒ party 3 ∷
    poll 3 0 ⇒ object 3 3 ∷
    start ⇒ party 4 ∷
    poll 4 0 ⇒ object 4 4 ∷
    back 0 ⇒ kept ∷
    back 1 ⇒ kept ∷
    back 2 ⇒ kept ∷
    back 3 ⇒ kept ∷
    back 4 ⇒ kept ∷
    retain_only (4 ∷ []) ⇒ retained 2 (0 ∷ 1 ∷ 2 ∷ []) ∷ [])
retain-spares-before-it-keeps = refl

-- The shrink gives nobody up, and no place is left over: a get waits until the limit grows by more than what is out.
pub growth-after-a-stopped-shrink : Plays (new_pool_with_min_idle 4 Fifo None 0 2) (
    start ⇒ party 0 ∷
    poll 0 0 ⇒ object 0 0 ∷
    start ⇒ party 1 ∷
    poll 1 0 ⇒ object 1 1 ∷
    start ⇒ party 2 ∷
    poll 2 0 ⇒ object 2 2 ∷
    start ⇒ party 3 ∷
    poll 3 0 ⇒ object 3 3 ∷
    back 0 ⇒ kept ∷
    back 1 ⇒ kept ∷
    resize_to 2 ⇒ ok ∷
    start ⇒ party 4 ∷
    poll 4 0 ⇒ pending ∷
    status ⇒ stands 2 4 1 0 ∷
    resize_to 4 ⇒ ok ∷
    status ⇒ stands 4 4 1 0 ∷
    start ⇒ party 5 ∷
    poll 5 0 ⇒ object 0 0 ∷
    poll 4 0 ⇒ object 1 1 ∷
    start ⇒ party 6 ∷
    poll 6 0 ⇒ pending ∷
    status ⇒ stands 4 4 0 1 ∷ [])
growth-after-a-stopped-shrink = refl

-- Of two that are too many one is given up.
pub shrink-stopped-half-way : Plays (new_pool_with_min_idle 4 Fifo None 0 1) (
    start ⇒ party 0 ∷
    poll 0 0 ⇒ object 0 0 ∷
    start ⇒ party 1 ∷
    poll 1 0 ⇒ object 1 1 ∷
    start ⇒ party 2 ∷
    poll 2 0 ⇒ object 2 2 ∷
    start ⇒ party 3 ∷
    poll 3 0 ⇒ object 3 3 ∷
    back 0 ⇒ kept ∷
    back 1 ⇒ kept ∷
    resize_to 2 ⇒ ok ∷
    status ⇒ stands 2 3 1 0 ∷
    back 2 ⇒ detached ∷
    back 3 ⇒ kept ∷
    status ⇒ stands 2 2 2 0 ∷
    resize_to 1 ⇒ ok ∷
    status ⇒ stands 1 1 1 0 ∷ [])
shrink-stopped-half-way = refl

-- The object that was out is not kept when it comes back.
pub last-handle-keeps-no-floor : Plays (new_pool_with_min_idle 2 Fifo None 0 2) (
    start ⇒ party 0 ∷
    poll 0 0 ⇒ object 0 0 ∷
    start ⇒ party 1 ∷
    poll 1 0 ⇒ object 1 1 ∷
    back 0 ⇒ kept ∷
    drop_handle ⇒ ok ∷
    back 1 ⇒ dropped ∷
    status ⇒ no_handle ∷
    upgrade_handle ⇒ upgraded false ∷ [])
last-handle-keeps-no-floor = refl
