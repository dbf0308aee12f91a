-- Worked scripts of gets that find a place or wait for one, and returns.
-- Each equation is a script with the reply to each line, and holds by computing.
use Rattle.std.specs.Prelude.{[], ◌∷◌, None, refl}
use Rattle.deadpool_parts.specs.declared.config.QueueMode.TheVariants.{Fifo, Lifo}
use Rattle.deadpool_parts.specs.declared.errors.PoolError.TheVariants.{NumbersExhausted}
use Rattle.deadpool_trial_scripts.specs.Script.{Plays, ◌⇒◌, new_pool, start, poll, back, status, party, no_such}
use Rattle.deadpool_trial_scripts.specs.Script.{pending, object, failed, kept, stands}

-- A get makes the first object, which comes back.
pub first-run : Plays (new_pool 1 Fifo None 0) (
    start ⇒ party 0 ∷
    poll 0 0 ⇒ object 0 0 ∷
    status ⇒ stands 1 1 0 0 ∷
    back 0 ⇒ kept ∷
    status ⇒ stands 1 1 1 0 ∷ [])
first-run = refl

-- A get waits for the only object and has it when it comes back, before a later get. A get that has ended is pending,
-- and no other get than those that were started is there.
pub lifo-and-a-waiter : Plays (new_pool 1 Lifo None 5) (
    start ⇒ party 0 ∷
    poll 0 0 ⇒ object 5 0 ∷
    start ⇒ party 1 ∷
    poll 1 0 ⇒ pending ∷
    status ⇒ stands 1 1 0 1 ∷
    back 0 ⇒ no_such ∷
    back 5 ⇒ kept ∷
    status ⇒ stands 1 1 0 0 ∷
    start ⇒ party 2 ∷
    poll 2 0 ⇒ pending ∷
    poll 1 0 ⇒ object 5 0 ∷
    poll 0 0 ⇒ pending ∷
    poll 9 0 ⇒ no_such ∷ [])
lifo-and-a-waiter = refl

-- The greatest number is given to no object.
pub numbers-exhausted : Plays (new_pool 2 Fifo None 18446744073709551614) (
    start ⇒ party 0 ∷
    poll 0 0 ⇒ object 18446744073709551614 0 ∷
    start ⇒ party 1 ∷
    poll 1 0 ⇒ failed NumbersExhausted ∷
    status ⇒ stands 2 1 0 0 ∷ [])
numbers-exhausted = refl

-- Three objects are made, and are idle after they came back.
pub three-gets-and-returns : Plays (new_pool 16 Fifo None 0) (
    status ⇒ stands 16 0 0 0 ∷
    start ⇒ party 0 ∷
    poll 0 0 ⇒ object 0 0 ∷
    status ⇒ stands 16 1 0 0 ∷
    start ⇒ party 1 ∷
    poll 1 0 ⇒ object 1 1 ∷
    status ⇒ stands 16 2 0 0 ∷
    start ⇒ party 2 ∷
    poll 2 0 ⇒ object 2 2 ∷
    status ⇒ stands 16 3 0 0 ∷
    back 0 ⇒ kept ∷
    status ⇒ stands 16 3 1 0 ∷
    back 1 ⇒ kept ∷
    status ⇒ stands 16 3 2 0 ∷
    back 2 ⇒ kept ∷
    status ⇒ stands 16 3 3 0 ∷ [])
three-gets-and-returns = refl
