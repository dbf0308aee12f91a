-- Worked scripts. Each equation is a script with the reply to each line, and holds by computing.
use Rattle.std.specs.Prelude.{[], ◌∷◌, Some, None, true, false, refl}
use Rattle.deadpool_parts.specs.declared.moment.Runtime.TheVariants.{Clock}
use Rattle.deadpool_trial_scripts.specs.Unmanaged.Script.{Plays, ◌⇒◌, new_pool, get, poll, party, pending, added}
use Rattle.deadpool_trial_scripts.specs.Unmanaged.Script.{failed, refused, taken, ok, stands, object, plain}
use Rattle.deadpool_unmanaged.specs.declared.error.PoolError.TheVariants.{Timeout, Closed, Crowded, NoRuntimeSpecified}
use Rattle.deadpool_trial.specs.Unmanaged.Pool.{bounded}
use Rattle.deadpool_trial.specs.declared.unmanaged.moves.Move.TheVariants.{Add, TryGet, TryAdd, Cancel, Back, Take}
use Rattle.deadpool_trial.specs.declared.unmanaged.moves.Move.TheVariants.{Close, Status, Clone, DropHandle, Upgrade}
use Rattle.deadpool_trial.specs.declared.unmanaged.moves.Reply.TheVariants.{NoSuch, NoHandle, Cancelled, Kept, Dropped}
use Rattle.deadpool_trial.specs.declared.unmanaged.moves.Reply.TheVariants.{Upgraded}

-- An add waits for room and gets it. The object that was added last goes out first. A close refuses the add that it
-- granted.
pub add-and-remove : Plays (new_pool 2 None) (
    TryAdd 1 ⇒ added 0 ∷
    TryAdd 2 ⇒ added 1 ∷
    TryAdd 3 ⇒ refused Timeout 3 ∷
    Add 3 ⇒ party 0 ∷
    poll 0 0 ⇒ pending ∷
    TryGet ⇒ object 1 2 ∷
    Take 1 ⇒ taken 2 ∷
    Status ⇒ stands 2 1 1 0 ∷
    poll 0 0 ⇒ added 3 ∷
    Add 4 ⇒ party 1 ∷
    poll 1 0 ⇒ pending ∷
    TryGet ⇒ object 3 3 ∷
    Take 3 ⇒ taken 3 ∷
    Close ⇒ ok ∷
    poll 1 0 ⇒ refused Closed 4 ∷
    Status ⇒ stands 2 0 0 0 ∷ [])
add-and-remove = refl

-- The same with the size after each step. An add that was granted room is not in the size before it is stored.
pub add-and-remove-sizes : Plays (new_pool 2 None) (
    TryAdd 1 ⇒ added 0 ∷
    Status ⇒ stands 2 1 1 0 ∷
    TryAdd 2 ⇒ added 1 ∷
    Status ⇒ stands 2 2 2 0 ∷
    TryAdd 3 ⇒ refused Timeout 3 ∷
    Add 3 ⇒ party 0 ∷
    poll 0 0 ⇒ pending ∷
    TryGet ⇒ object 1 2 ∷
    Take 1 ⇒ taken 2 ∷
    Status ⇒ stands 2 1 1 0 ∷
    poll 0 0 ⇒ added 3 ∷
    Status ⇒ stands 2 2 2 0 ∷
    Add 4 ⇒ party 1 ∷
    poll 1 0 ⇒ pending ∷
    TryGet ⇒ object 3 3 ∷
    Take 3 ⇒ taken 3 ∷
    Status ⇒ stands 2 1 1 0 ∷
    Close ⇒ ok ∷
    Status ⇒ stands 2 0 0 0 ∷
    poll 1 0 ⇒ refused Closed 4 ∷
    Status ⇒ stands 2 0 0 0 ∷ [])
add-and-remove-sizes = refl

-- A get that was granted an object is not passed by a try. If the last handle takes the object with it, the get ends.
pub granted-get-is-not-passed : Plays (new_pool 1 None) (
    get None ⇒ party 0 ∷
    poll 0 0 ⇒ pending ∷
    TryAdd 7 ⇒ added 0 ∷
    Status ⇒ stands 1 1 1 1 ∷
    TryGet ⇒ failed Timeout ∷
    DropHandle ⇒ ok ∷
    poll 0 0 ⇒ failed Closed ∷
    Status ⇒ plain NoHandle ∷ [])
granted-get-is-not-passed = refl

-- Without a runtime a get may not wait for a while, but it may look.
pub no-runtime : Plays (new_pool 2 None) (
    get (Some 1000000) ⇒ party 0 ∷
    poll 0 0 ⇒ failed NoRuntimeSpecified ∷
    get (Some 0) ⇒ party 1 ∷
    poll 1 0 ⇒ failed Timeout ∷ [])
no-runtime = refl

-- With a runtime it waits until its deadline.
pub wait-ends-at-the-deadline : Plays (new_pool 2 (Some Clock)) (
    get (Some 1000000) ⇒ party 0 ∷
    poll 0 0 ⇒ pending ∷
    poll 0 999999 ⇒ pending ∷
    poll 0 1000000 ⇒ failed Timeout ∷
    poll 0 1000001 ⇒ pending ∷ [])
wait-ends-at-the-deadline = refl

-- An add that was granted room is not passed by a try.
pub granted-add-is-not-passed : Plays (new_pool 1 None) (
    TryAdd 1 ⇒ added 0 ∷
    Add 2 ⇒ party 0 ∷
    poll 0 0 ⇒ pending ∷
    TryGet ⇒ object 0 1 ∷
    Take 0 ⇒ taken 1 ∷
    TryAdd 3 ⇒ refused Timeout 3 ∷
    poll 0 0 ⇒ added 1 ∷
    Status ⇒ stands 1 1 1 0 ∷ [])
granted-add-is-not-passed = refl

-- Who is cancelled gives back what it was granted, and the next in order has it. Its object is gone.
pub cancelled-parties-give-back : Plays (new_pool 1 None) (
    get None ⇒ party 0 ∷
    get None ⇒ party 1 ∷
    poll 1 0 ⇒ pending ∷
    poll 0 0 ⇒ pending ∷
    TryAdd 5 ⇒ added 0 ∷
    Cancel 1 ⇒ plain Cancelled ∷
    Cancel 1 ⇒ plain NoSuch ∷
    TryGet ⇒ failed Timeout ∷
    poll 0 0 ⇒ object 0 5 ∷
    Add 6 ⇒ party 2 ∷
    Add 7 ⇒ party 3 ∷
    poll 2 0 ⇒ pending ∷
    poll 3 0 ⇒ pending ∷
    Take 0 ⇒ taken 5 ∷
    Cancel 2 ⇒ plain Cancelled ∷
    poll 3 0 ⇒ added 2 ∷
    poll 3 0 ⇒ pending ∷ [])
cancelled-parties-give-back = refl

-- An object that is out stays in the size over a close, and is dropped when it comes back.
pub close-keeps-those-out : Plays (new_pool 3 None) (
    TryAdd 1 ⇒ added 0 ∷
    TryAdd 2 ⇒ added 1 ∷
    TryGet ⇒ object 1 2 ∷
    Close ⇒ ok ∷
    Status ⇒ stands 3 1 0 0 ∷
    TryGet ⇒ failed Closed ∷
    TryAdd 3 ⇒ refused Closed 3 ∷
    Back 1 ⇒ plain Dropped ∷
    Status ⇒ stands 3 0 0 0 ∷
    Back 1 ⇒ plain NoSuch ∷ [])
close-keeps-those-out = refl

-- The last handle takes the idle objects with it, and an add that waits has their room. It is stored all the same.
pub last-handle : Plays (new_pool 1 None) (
    TryAdd 1 ⇒ added 0 ∷
    Add 2 ⇒ party 0 ∷
    poll 0 0 ⇒ pending ∷
    Clone ⇒ ok ∷
    DropHandle ⇒ ok ∷
    Status ⇒ stands 1 1 1 0 ∷
    Upgrade ⇒ plain (Upgraded true) ∷
    DropHandle ⇒ ok ∷
    DropHandle ⇒ ok ∷
    Upgrade ⇒ plain (Upgraded false) ∷
    TryAdd 3 ⇒ plain NoHandle ∷
    poll 0 0 ⇒ added 1 ∷ [])
last-handle = refl

-- The object that came back last goes out first.
pub last-in-first-out : Plays (new_pool 2 None) (
    TryAdd 1 ⇒ added 0 ∷
    TryAdd 2 ⇒ added 1 ∷
    TryGet ⇒ object 1 2 ∷
    TryGet ⇒ object 0 1 ∷
    Back 1 ⇒ plain Kept ∷
    Back 0 ⇒ plain Kept ∷
    TryGet ⇒ object 0 1 ∷ [])
last-in-first-out = refl

-- One get may wait, and one add. The next is refused at once, and who does not wait is as ever.
pub one-more-is-refused : Plays (bounded (Some 1) (new_pool 1 None)) (
    get None ⇒ party 0 ∷
    poll 0 0 ⇒ pending ∷
    get None ⇒ party 1 ∷
    poll 1 0 ⇒ failed Crowded ∷
    TryGet ⇒ failed Timeout ∷
    TryAdd 1 ⇒ added 0 ∷
    get None ⇒ party 2 ∷
    poll 2 0 ⇒ pending ∷
    Add 2 ⇒ party 3 ∷
    poll 3 0 ⇒ pending ∷
    Add 3 ⇒ party 4 ∷
    poll 4 0 ⇒ refused Crowded 3 ∷
    TryAdd 4 ⇒ refused Timeout 4 ∷
    poll 0 0 ⇒ object 0 1 ∷
    Close ⇒ ok ∷
    get None ⇒ party 5 ∷
    poll 5 0 ⇒ failed Closed ∷ [])
one-more-is-refused = refl

-- The bound is of the gets and of the adds, each by itself. One that is cancelled makes room among its own.
pub gets-and-adds-are-bounded-apart : Plays (bounded (Some 1) (new_pool 0 None)) (
    get None ⇒ party 0 ∷
    poll 0 0 ⇒ pending ∷
    Add 1 ⇒ party 1 ∷
    poll 1 0 ⇒ pending ∷
    get None ⇒ party 2 ∷
    poll 2 0 ⇒ failed Crowded ∷
    Add 2 ⇒ party 3 ∷
    poll 3 0 ⇒ refused Crowded 2 ∷
    Cancel 0 ⇒ plain Cancelled ∷
    Add 3 ⇒ party 4 ∷
    poll 4 0 ⇒ refused Crowded 3 ∷
    get None ⇒ party 5 ∷
    poll 5 0 ⇒ pending ∷
    Status ⇒ stands 0 0 0 1 ∷ [])
gets-and-adds-are-bounded-apart = refl

-- Where nobody may wait, one that finds what it asks for is served, and one that does not wait is refused as ever.
pub nobody-may-wait : Plays (bounded (Some 0) (new_pool 1 None)) (
    get None ⇒ party 0 ∷
    poll 0 0 ⇒ failed Crowded ∷
    get (Some 0) ⇒ party 1 ∷
    poll 1 0 ⇒ failed Timeout ∷
    Add 1 ⇒ party 2 ∷
    poll 2 0 ⇒ added 0 ∷
    Add 2 ⇒ party 3 ∷
    poll 3 0 ⇒ refused Crowded 2 ∷
    get None ⇒ party 4 ∷
    poll 4 0 ⇒ object 0 1 ∷ [])
nobody-may-wait = refl
