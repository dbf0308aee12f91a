-- What each step leaves of a closed pool: never more than there was.
use Rattle.deadpool_desk.proofs.Names.{◌≡◌, ℕ, ◌+◌, ◌-◌, ◌<◌, ◌≤◌, false, List, [], ◌∷◌, ◌++◌, length, take, refl}
use Rattle.deadpool_desk.proofs.Names.{ap, inl, inr, arith, append-nil, length-append, Option, Some, None, Ok}
use Rattle.deadpool_desk.proofs.Names.{without_number-shorter, DeskState, Reviews, least_idle, Slot}
use Rattle.deadpool_desk.proofs.Names.{Serves, settled, unqueued}
use Rattle.std.proofs.Common.{length-take, Err}
use Rattle.deadpool_parts.specs.declared.config.QueueMode.{QueueMode}
use Rattle.deadpool_parts.specs.declared.config.QueueMode.TheVariants.{Fifo, Lifo}
use Rattle.deadpool_desk.specs.Closing.{EachStep, EachRetain, OnlyShrinks, ShrinksIfClosed}
use Rattle.deadpool_desk.specs.DeskState.{grants, next_idle, other_idle}
use Rattle.deadpool_desk.specs.DeskSteps.{Does, GivesUp}
use Rattle.deadpool_desk.specs.declared.retain.Retainer.{Ghosts as RetainerOf}
use Rattle.deadpool_desk.specs.declared.step.Held.TheVariants as held
use Rattle.deadpool_desk.specs.declared.step.Reply.{Reply}
use Rattle.deadpool_desk.specs.declared.step.Reply.TheVariants.{Object, Create, Going, Exhausted, Closed, Done, Number}
use Rattle.deadpool_desk.specs.declared.step.Reply.TheVariants.{Kept, Detach, Dropped, Taken, Unknown}
use Rattle.deadpool_desk.specs.declared.step.Step.TheVariants.{Enter, Ask, Again, Discard, Created, Failed, Refused}
use Rattle.deadpool_desk.specs.declared.step.Step.TheVariants.{Back, Withdraw, Cancel, Take}

-- who serves an idle object has one, and leaves one fewer
one_fewer : {O : Type 0} (mode : QueueMode) (idle : List O) (slot : O) → next_idle mode idle ≡ Some slot
    → length (other_idle mode idle) + 1 ≡ length idle
one_fewer Fifo [] slot next = cc
one_fewer Fifo (x ∷ xs) slot next = omega arith
one_fewer Lifo [] slot next = cc
one_fewer Lifo (x ∷ xs) slot next = omega (arith, length-take (length (x ∷ xs) - 1) (x ∷ xs))

module _ {O : Type 0} (d : DeskState O) (shut : d.is_open ≡ false) where
  same : OnlyShrinks d d
  same = record { closed = shut; reach = omega arith; left = omega arith }

  -- nobody is granted a place any more
  granted_same : (e : DeskState O) → e.is_open ≡ false → e.granted ++ take (grants e) e.waiting ≡ e.granted
  granted_same e closed = rw (closed, append-nil e.granted) refl

  shrinks_settled : (e : DeskState O) → OnlyShrinks d e → OnlyShrinks d (settled e)
  shrinks_settled e s =
      let granted = ap length (granted_same e s.closed) in
      record { closed = s.closed; reach = omega (arith, granted, s.reach); left = s.left }

  shrinks_unqueued : (ticket : ℕ) → OnlyShrinks d (unqueued ticket d)
  shrinks_unqueued ticket =
      let fewer = without_number-shorter ticket d.granted in
      record { closed = shut; reach = omega (arith, fewer); left = omega arith }

  -- if what is there to be given up is given up, or is unknown
  shrinks_given_up : (count : ℕ) (reply : Reply) (without d' : DeskState O) → (0 < count → OnlyShrinks d without)
      → GivesUp d count reply without d' → OnlyShrinks d d'
  shrinks_given_up count Done without d' less h = rw h.1 (less h.0)
  shrinks_given_up count Unknown without d' less h = rw h.1 same
  shrinks_given_up count _ without d' less h = absurd h

  -- with one place fewer of those that are held
  without_going : 0 < d.going → OnlyShrinks d (settled (record d { going = d.going - 1 }))
  without_going some = shrinks_settled (record d { going = d.going - 1 })
      (record { closed = shut; reach = omega arith; left = omega arith })

  without_creation : 0 < d.creations → OnlyShrinks d (settled (record d { creations = d.creations - 1 }))
  without_creation some = shrinks_settled (record d { creations = d.creations - 1 })
      (record { closed = shut; reach = omega arith; left = omega arith })

  without_object : 0 < d.outside → OnlyShrinks d (settled (record d { outside = d.outside - 1 }))
  without_object some = shrinks_settled (record d { outside = d.outside - 1 })
      (record { closed = shut; reach = omega arith; left = omega arith })

  shrinks_served : (allowance : Option ℕ) (object : Option O) (reply : Reply) (d' : DeskState O) → 0 < d.going
      → Serves (record d { going = d.going - 1 }) allowance object reply d' → OnlyShrinks d d'
  shrinks_served allowance (Some slot) (Object left) d' some h =
      let fewer = one_fewer d.mode d.idle slot h.0 in
      rw h.2 (record { closed = shut; reach = omega (arith, fewer, some); left = omega (arith, fewer, some) })
  shrinks_served allowance None Going d' some h =
      rw h.2 (record { closed = shut; reach = omega arith; left = omega arith })
  shrinks_served allowance None Create d' some h =
      let none = ap length h.0 in
      rw h.2 (record { closed = shut; reach = omega (arith, none, some); left = omega arith })
  shrinks_served allowance None Exhausted d' some h = rw h.2 (without_going some)
  shrinks_served allowance _ _ d' some h = absurd h

  shrinks_back : (slot : O) (reply : Reply) (d' : DeskState O) → Does d Back (Some slot) reply d' → OnlyShrinks d d'
  shrinks_back slot Unknown d' h = rw h.1 same
  shrinks_back slot Dropped d' h = rw h.2 (without_object h.0)
  shrinks_back slot Detach d' h = rw h.3 (without_object h.0)
  shrinks_back slot Kept d' h =
      let longer = length-append d.idle (slot ∷ []) in
      rw h.3 (shrinks_settled (record d { idle = d.idle ++ slot ∷ []; outside = d.outside - 1 })
      (record { closed = shut; reach = omega (arith, longer, h.0); left = omega (arith, longer, h.0) }))
  shrinks_back slot _ d' h = absurd h

pub step_shrinks : {O : Type 0} → EachStep {O = O} (λ _ _. ShrinksIfClosed)
step_shrinks d d' (Enter wait) None Closed h shut = rw h.1 (same d shut)
step_shrinks d d' (Enter wait) object reply h shut = let opens = h.0 in absurd cc
step_shrinks d d' (Ask ticket expired) None Unknown h shut = rw h.1 (same d shut)
step_shrinks d d' (Ask ticket expired) None Closed h shut = rw h.2 (shrinks_unqueued d shut ticket)
step_shrinks d d' (Ask ticket expired) object reply h shut = let opens = h.0 in absurd cc
step_shrinks d d' (Again allowance) None Unknown h shut = rw h.1 (same d shut)
step_shrinks d d' (Again allowance) object reply h shut = shrinks_served d shut allowance object reply d' h.0 h.1
step_shrinks d d' Discard None reply h shut = shrinks_given_up d shut d.outside reply
    (record d { outside = d.outside - 1; going = d.going + 1 }) d'
    (λ some. record { closed = shut; reach = omega arith; left = omega arith }) h
step_shrinks d d' Created None Unknown h shut = rw h.1 (same d shut)
step_shrinks d d' Created None (Number number) h shut =
    let some = h.0 in
    rw h.2 (record { closed = shut; reach = omega arith; left = omega arith })
step_shrinks d d' Failed None reply h shut = shrinks_given_up d shut d.creations reply
    (settled (record d { creations = d.creations - 1 })) d' (without_creation d shut) h
step_shrinks d d' Refused None reply h shut = shrinks_given_up d shut d.outside reply
    (settled (record d { outside = d.outside - 1 })) d' (without_object d shut) h
step_shrinks d d' Back (Some slot) reply h shut = shrinks_back d shut slot reply d' h
step_shrinks d d' Take None Unknown h shut = rw h.1 (same d shut)
step_shrinks d d' Take None (Taken detach) h shut = rw h.2 (without_object d shut h.0)
step_shrinks d d' (Withdraw ticket) None Unknown h shut = rw h.1 (same d shut)
step_shrinks d d' (Withdraw ticket) None Done h shut =
    rw h.1 (shrinks_settled d shut (unqueued ticket d) (shrinks_unqueued d shut ticket))
step_shrinks d d' (Cancel held.Place) None reply h shut = shrinks_given_up d shut d.going reply
    (settled (record d { going = d.going - 1 })) d' (without_going d shut) h
step_shrinks d d' (Cancel held.Creation) None reply h shut = shrinks_given_up d shut d.creations reply
    (settled (record d { creations = d.creations - 1 })) d' (without_creation d shut) h
step_shrinks d d' (Cancel held.Object) None reply h shut = shrinks_given_up d shut d.outside reply
    (settled (record d { outside = d.outside - 1 })) d' (without_object d shut) h
step_shrinks d d' _ _ _ h shut = absurd h

module _ {T R L : Type 0} (asks : RetainerOf R T L) where
  -- no more stay than were asked about
  reviews_fewer : (least idle : ℕ) (slots : List (Slot T)) (r : R) (kept : List (Slot T)) (removed : List L) (r' : R)
      → Reviews asks least idle slots r kept removed r' → length kept ≤ length slots
  reviews_fewer least idle [] r kept removed r' h = omega (arith, ap length h.0)
  reviews_fewer least idle (slot ∷ slots) r kept removed r' (inl (next, others, stays, is, rest)) =
      omega (arith, reviews_fewer least idle slots next others removed r' rest, ap length is)
  reviews_fewer least idle (slot ∷ slots) r kept removed r' (inr (next, left, others, goes, is, rest)) =
      omega (arith, reviews_fewer least (idle - 1) slots next kept others r' rest)

  pub retain_shrinks : EachRetain asks ShrinksIfClosed
  retain_shrinks d d' r r' (Ok given) h shut =
      let fewer = reviews_fewer (least_idle d.limit d) (length d.idle) d.idle r h.0 given.removed r' h.1 in
      rw h.3 (record { closed = shut; reach = omega (arith, fewer); left = omega (arith, fewer) })
  retain_shrinks d d' r r' (Err e) h shut = rw h.1 (same d shut)
