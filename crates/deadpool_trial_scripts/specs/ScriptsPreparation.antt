-- Worked scripts of what an object passes before it is handed out, and creations that end badly.
-- Each equation is a script with the reply to each line, and holds by computing.
use Rattle.std.specs.Prelude.{[], ◌∷◌, None, refl}
use Rattle.deadpool_parts.specs.declared.config.QueueMode.TheVariants.{Fifo}
use Rattle.deadpool_parts.specs.declared.errors.PoolError.TheVariants.{Backend, PostCreateHook}
use Rattle.deadpool_parts.specs.declared.errors.HookError.TheVariants.{Message}
use Rattle.deadpool_trial_scripts.specs.Script.{Plays, ◌⇒◌, new_pool, Fine, Stalls, Refuses, Adds, Create, Recycle}
use Rattle.deadpool_trial_scripts.specs.Script.{PreRecycle, PostRecycle, PostCreate, refused_text, start, advance, poll}
use Rattle.deadpool_trial_scripts.specs.Script.{back, status, answer, party, more, pending, object, failed, ok, kept}
use Rattle.deadpool_trial_scripts.specs.Script.{stands}

-- One object was idle when the poll first took one, so that it takes only one. Its next poll may take another.
pub allowance-used-up : Plays (new_pool 3 Fifo None 0) (
    start ⇒ party 0 ∷
    poll 0 0 ⇒ object 0 0 ∷
    start ⇒ party 1 ∷
    poll 1 0 ⇒ object 1 1 ∷
    start ⇒ party 2 ∷
    poll 2 0 ⇒ object 2 2 ∷
    back 0 ⇒ kept ∷
    answer Recycle (Refuses ∷ []) ⇒ ok ∷
    start ⇒ party 3 ∷
    advance 3 0 ⇒ more ∷
    advance 3 0 ⇒ more ∷
    status ⇒ stands 3 2 0 1 ∷
    back 1 ⇒ kept ∷
    status ⇒ stands 3 2 0 0 ∷
    advance 3 0 ⇒ pending ∷
    back 2 ⇒ kept ∷
    status ⇒ stands 3 2 1 0 ∷
    poll 3 0 ⇒ object 1 1 ∷
    status ⇒ stands 3 2 1 0 ∷ [])
allowance-used-up = refl

-- Each call on an idle object sees the value that the call before it left.
pub calls-see-what-was-left : Plays (new_pool 1 Fifo None 0) (
    start ⇒ party 0 ∷
    poll 0 0 ⇒ object 0 0 ∷
    back 0 ⇒ kept ∷
    answer PreRecycle (Adds ∷ Fine ∷ []) ⇒ ok ∷
    answer Recycle (Adds ∷ []) ⇒ ok ∷
    answer PostRecycle (Adds ∷ []) ⇒ ok ∷
    start ⇒ party 1 ∷
    poll 1 0 ⇒ object 0 3 ∷ [])
calls-see-what-was-left = refl

-- The poll after a pending one takes and gives up all that are idle then, and a new object is made.
pub gives-up-all-that-were-idle : Plays (new_pool 3 Fifo None 0) (
    start ⇒ party 0 ∷
    poll 0 0 ⇒ object 0 0 ∷
    start ⇒ party 1 ∷
    poll 1 0 ⇒ object 1 1 ∷
    start ⇒ party 2 ∷
    poll 2 0 ⇒ object 2 2 ∷
    back 0 ⇒ kept ∷
    back 1 ⇒ kept ∷
    answer Recycle (Stalls ∷ Refuses ∷ Refuses ∷ Refuses ∷ []) ⇒ ok ∷
    start ⇒ party 3 ∷
    poll 3 0 ⇒ pending ∷
    status ⇒ stands 3 3 1 0 ∷
    back 2 ⇒ kept ∷
    status ⇒ stands 3 3 2 0 ∷
    poll 3 0 ⇒ object 3 3 ∷
    status ⇒ stands 3 1 0 0 ∷ [])
gives-up-all-that-were-idle = refl

-- A new object that is refused has used its number up.
pub post-create-refuses-odd-values : Plays (new_pool 3 Fifo None 0) (
    answer PostCreate (Fine ∷ Refuses ∷ Fine ∷ Refuses ∷ Fine ∷ []) ⇒ ok ∷
    start ⇒ party 0 ∷
    poll 0 0 ⇒ object 0 0 ∷
    start ⇒ party 1 ∷
    poll 1 0 ⇒ failed (PostCreateHook (Message refused_text)) ∷
    start ⇒ party 2 ∷
    poll 2 0 ⇒ object 2 2 ∷
    start ⇒ party 3 ∷
    poll 3 0 ⇒ failed (PostCreateHook (Message refused_text)) ∷
    start ⇒ party 4 ∷
    poll 4 0 ⇒ object 4 4 ∷
    status ⇒ stands 3 3 0 0 ∷ [])
post-create-refuses-odd-values = refl

-- A hook accepts each object once, and refuses it the second time.
pub pre-recycle-refuses-in-turn : Plays (new_pool 1 Fifo None 0) (
    answer PreRecycle (Fine ∷ Refuses ∷ Fine ∷ Refuses ∷ Fine ∷ []) ⇒ ok ∷
    start ⇒ party 0 ∷
    poll 0 0 ⇒ object 0 0 ∷
    back 0 ⇒ kept ∷
    status ⇒ stands 1 1 1 0 ∷
    start ⇒ party 1 ∷
    poll 1 0 ⇒ object 0 0 ∷
    back 0 ⇒ kept ∷
    status ⇒ stands 1 1 1 0 ∷
    start ⇒ party 2 ∷
    poll 2 0 ⇒ object 1 1 ∷
    back 1 ⇒ kept ∷
    status ⇒ stands 1 1 1 0 ∷
    start ⇒ party 3 ∷
    poll 3 0 ⇒ object 1 1 ∷
    back 1 ⇒ kept ∷
    status ⇒ stands 1 1 1 0 ∷
    start ⇒ party 4 ∷
    poll 4 0 ⇒ object 2 2 ∷
    back 2 ⇒ kept ∷
    status ⇒ stands 1 1 1 0 ∷
    start ⇒ party 5 ∷
    poll 5 0 ⇒ object 2 2 ∷
    back 2 ⇒ kept ∷
    status ⇒ stands 1 1 1 0 ∷ [])
pre-recycle-refuses-in-turn = refl

-- A creation that is refused ends its get, and the place goes to the get that waits.
pub refused-creation-passes-its-place-on : Plays (new_pool 1 Fifo None 0) (
    answer Create (Stalls ∷ Refuses ∷ []) ⇒ ok ∷
    start ⇒ party 0 ∷
    poll 0 0 ⇒ pending ∷
    status ⇒ stands 1 0 0 1 ∷
    start ⇒ party 1 ∷
    poll 1 0 ⇒ pending ∷
    status ⇒ stands 1 0 0 2 ∷
    poll 0 0 ⇒ failed (Backend tt) ∷
    status ⇒ stands 1 0 0 1 ∷
    poll 1 0 ⇒ object 0 0 ∷
    status ⇒ stands 1 1 0 0 ∷
    back 0 ⇒ kept ∷
    status ⇒ stands 1 1 1 0 ∷ [])
refused-creation-passes-its-place-on = refl
