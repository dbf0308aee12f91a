-- A core settles as its pool does, and a pool in which nobody waits stays as it is.
use Rattle.deadpool_trial.proofs.OfUnmanaged.Basics.{◌≡◌, ℕ, List, Bool, cond, length, map, take, min}
use Rattle.deadpool_trial.proofs.OfUnmanaged.Basics.{refl, arith, Option}
use Rattle.deadpool_trial.proofs.OfUnmanaged.Basics.{take-map, drop-map, map-append, length-map, Runtime, owner, Queue}
use Rattle.deadpool_trial.proofs.OfUnmanaged.Basics.{renamed, served, owned-granting}
use Rattle.deadpool_trial.proofs.OfUnmanaged.Words.{image, has_get, has_add, TrialInvariant, NobodyWaits, Pool, settle}
use Rattle.deadpool_trial.proofs.OfUnmanaged.Words.{free_objects, free_room, State, settled}
use Rattle.deadpool_trial.proofs.OfUnmanaged.Words.{Item, Visitor, objects_left}
use Rattle.deadpool_trial.proofs.OfUnmanaged.Words.{room_left, served-settled}

-- the same are granted under other names
pub renamed-served : (f : ℕ → ℕ) (is_open : Bool) (free : ℕ) (q : Queue)
    → renamed f (served is_open free q) ≡ served is_open free (renamed f q)
renamed-served f is_open free q =
    let k = cond is_open (min (length q.waiting) free) 0 in
    let same : length (map f q.waiting) ≡ length q.waiting = length-map q.waiting f in
    rw (same, map-append f q.granted (take k q.waiting), ← take-map f k q.waiting, ← drop-map f k q.waiting) refl

module _ {V : Type 0} where
  pub settle-none : (p : Pool V) → NobodyWaits p → settle p ≡ p
  settle-none p nobody = rw (
    ← served-settled p.is_open (free_objects p) p.gets nobody.objects,
    ← served-settled p.is_open (free_room p) p.adds nobody.room,
  ) refl

  -- a settled core has the same tickets
  pub counted-settled : (d : State (Item V)) (visitors : List (Option (Visitor V))) (out : List (Item V))
      → TrialInvariant d visitors out → TrialInvariant (settled d) visitors out
  counted-settled d visitors out k =
      record {
        gets = owned-granting has_get d.gets visitors k.gets _;
        adds = owned-granting has_add d.adds visitors k.adds _;
        outside = k.outside;
      }

  pub settles : (runtime : Option Runtime) (most next : ℕ) (d : State (Item V)) (visitors : List (Option (Visitor V)))
      (out : List (Item V)) → TrialInvariant d visitors out
      → image runtime most next (settled d) visitors out ≡ settle (image runtime most next d visitors out)
  settles runtime most next d visitors out k =
      let p : Pool V = image runtime most next d visitors out in
      let gets : length (map (owner has_get visitors) d.gets.granted) ≡ length d.gets.granted =
      length-map d.gets.granted (owner has_get visitors) in
      let adds : length (map (owner has_add visitors) d.adds.granted) ≡ length d.adds.granted =
      length-map d.adds.granted (owner has_add visitors) in
      let objects : objects_left d ≡ free_objects p = omega (arith, gets) in
      let room : room_left d ≡ free_room p = omega (arith, adds, k.outside) in
      rw (
        renamed-served (owner has_get visitors) d.is_open (objects_left d) d.gets,
        renamed-served (owner has_add visitors) d.is_open (room_left d) d.adds,
        objects,
        room,
      ) refl
