-- Objects that are out: one gets another value, leaves the pool for good, or comes back.
use Rattle.deadpool_trial.proofs.Basics.{◌≡◌, ℕ, suc, List, [], ◌∷◌, ◌==◌, length, set, refl, ap, inl, inr, Some, None}
use Rattle.deadpool_trial.proofs.Basics.{get_or, position, position_or_len, one-add, cases_Bool, place_is}
use Rattle.deadpool_trial.proofs.Basics.{found_at_place, arith, Option, ◌+◌, ◌-◌, length-without_numbered, ◌++◌, true}
use Rattle.deadpool_trial.proofs.Basics.{false, nat_le, sym, le-leb, lt-leb, eq-eqb, ne_eqb, Gives}
use Rattle.deadpool_trial.proofs.Words.{find_slot, with_put, with_value, Slot}
use Rattle.deadpool_trial.proofs.Words.{DeskState, Getting, TrialInvariant, settled}
use Rattle.deadpool_trial.proofs.Words.{settle, without_slot, slot_number, May, Does, IsReplyTo, LeavesInHand, Pool}
use Rattle.deadpool_trial.proofs.Words.{size, one_step, IsTaken, reply_to_back, Step, DeskReply, Reply, Setup, image}
use Rattle.deadpool_trial.specs.declared.moves.Move.TheVariants as move
use Rattle.deadpool_trial.specs.declared.moves.Reply.TheVariants as reply
use Rattle.deadpool_trial.proofs.DeskImage.{settles, counted_settled}

module _ {V : Type 0} where
  -- a value put at the first place with the number
  put_there : (n : ℕ) (v : V) (xs : List (Slot V)) (slot : Slot V) → find_slot n xs ≡ Some slot
      → set xs (position_or_len (λ s. s.number == n) xs) (with_value v slot) ≡ with_put n v xs
  put_there n v [] slot h = cc
  put_there n v (x ∷ xs) slot h =
      elim (cases_Bool (x.number == n)) [
        | inl same_number ↦ let same : x ≡ slot = let here = rw same_number at h in cc in rw (same_number, same) refl
        | inr differs ↦
            let there : find_slot n xs ≡ Some slot = rw differs at h in
            rw (differs, one-add) (ap (λ ys. x ∷ ys) (put_there n v xs slot there))
      ]

  -- a value that is put at an object's place is put at its number
  pub put_at_place : (n : ℕ) (v : V) (xs : List (Slot V)) (at : ℕ) (slot : Slot V)
      → position (λ s. s.number == n) xs ≡ Some at → slot ≡ get_or xs at slot
      → set xs at (with_value v slot) ≡ with_put n v xs
  put_at_place n v xs at slot h e =
      let w = place_is (λ s. s.number == n) xs at h in
      rw (← w.0) (put_there n v xs slot (found_at_place (λ s. s.number == n) xs at slot h e))

  pub length-with_put : (n : ℕ) (v : V) (xs : List (Slot V)) → length (with_put n v xs) ≡ length xs
  length-with_put n v [] = refl
  length-with_put n v (x ∷ xs) =
      elim (cases_Bool (x.number == n)) [
        | inl same_number ↦ rw same_number refl
        | inr differs ↦ rw differs (ap suc (length-with_put n v xs))
      ]

module _ {V C R S : Type 0} where
  -- as many are out as before
  pub put_counted : (core : DeskState (Slot V)) (gets : List (Option (Getting V C R S))) (out : List (Slot V)) (n : ℕ)
      (v : V) → TrialInvariant core gets out → TrialInvariant core gets (with_put n v out)
  put_counted core gets out n v k =
      let same = length-with_put n v out in
      record {
        tickets = k.tickets;
        going = k.going;
        creations = k.creations;
        outside = omega (arith, same, k.outside);
        room = omega (arith, same, k.room);
      }

module _ {V C R S : Type 0} (core : DeskState (Slot V)) (gets : List (Option (Getting V C R S))) (out : List (Slot V))
    (n : ℕ) (slot : Slot V) (k : TrialInvariant core gets out) (h : find_slot n out ≡ Some slot) where
  -- an object that is out has a place
  pub one_outside : (core.outside - 1) + 1 ≡ core.outside
  one_outside = omega (arith, k.outside, length-without_numbered slot_number n out slot h)

  -- the desk that counts one object less, whatever is idle
  pub taken_counted : (idle : List (Slot V))
      → TrialInvariant (record core { idle = idle; outside = core.outside - 1 }) gets (without_slot n out)
  taken_counted idle =
      let less = length-without_numbered slot_number n out slot h in
      record {
        tickets = record { owned = k.tickets.owned; listed = k.tickets.listed };
        going = k.going;
        creations = k.creations;
        outside = omega (arith, less, k.outside);
        room = omega (arith, less, k.room);
      }

module _ {M V E C R S F A : Type 0} (setup : Setup M F A V E C R S)
    (core core' : DeskState (Slot V)) (gets : List (Option (Getting V C R S))) (out : List (Slot V)) (n : ℕ)
    (slot : Slot V) (k : TrialInvariant core gets out) (h : find_slot n out ≡ Some slot) where
  -- an object that leaves the pool for good takes its place with it
  pub takes : core' ≡ settled (record core { outside = core.outside - 1 })
      → (image setup core' gets (without_slot n out)
      ≡ settle (record (image setup core gets out) { out = without_slot n out }))
      × TrialInvariant core' gets (without_slot n out)
  takes e =
      let counted = taken_counted core gets out n slot k h core.idle in
      let core1 : DeskState (Slot V) = record core { outside = core.outside - 1 } in
      rw e (
        settles setup core1 gets (without_slot n out) counted,
        counted_settled core1 gets (without_slot n out) counted,
      )

-- nothing comes into the hand of whoever takes an object out for good
pub takes_none : {V : Type 0} (r : DeskReply) (hand : Option (Slot V)) → IsReplyTo Step.Take r
    → LeavesInHand r None hand → hand ≡ None
takes_none (DeskReply.Taken detach) hand fits left = left
takes_none DeskReply.Unknown hand fits left = left
takes_none _ hand fits left = absurd fits

module _ {V C R S : Type 0} (core core' : DeskState (Slot V)) (gets : List (Option (Getting V C R S)))
    (out : List (Slot V)) (n : ℕ) (slot : Slot V) (k : TrialInvariant core gets out) (h : find_slot n out
    ≡ Some slot) where
  -- the desk knows of an object that is out
  pub back_known : (r : DeskReply) (hand : Option (Slot V)) → Does core Step.Back (Some slot) r core'
      → LeavesInHand r (Some slot) hand → IsTaken r hand
  back_known DeskReply.Kept hand e left = tt
  back_known DeskReply.Dropped hand e left = tt
  back_known DeskReply.Detach hand e left = rw left refl
  back_known DeskReply.Unknown hand e left = absurd (omega (arith, one_outside core gets out n slot k h, e.0))
  back_known _ hand e left = absurd e

module _ {M V E C R S F A : Type 0} (may : May V E C R S F A) (setup : Setup M F A V E C R S)
    (core core' : DeskState (Slot V)) (gets : List (Option (Getting V C R S))) (out : List (Slot V)) (n : ℕ)
    (slot : Slot V) (k : TrialInvariant core gets out) (h : find_slot n out ≡ Some slot) where
  -- what the desk makes of an object that comes back is what the pool makes of it
  pub backs : (r : DeskReply) (hand : Option (Slot V)) (answer : Reply V E) → Does core Step.Back (Some slot) r core'
      → LeavesInHand r (Some slot) hand → Gives may (reply_to_back r hand) answer
      → Gives may (one_step (move.Back n) (image setup core gets out)) (
        answer,
        image setup core' gets (without_slot n out),
      ) × TrialInvariant core' gets (without_slot n out)
  backs DeskReply.Kept hand answer e left g =
      let core1 : DeskState (Slot V) = record core { idle = core.idle ++ slot ∷ []; outside = core.outside - 1 } in
      let counted = taken_counted core gets out n slot k h (core.idle ++ slot ∷ []) in
      let has_handle : (core.handles == 0) ≡ false = ne_eqb core.handles 0 (omega (arith, e.1)) in
      let fits : nat_le (size (image setup core gets out)) core.limit ≡ true =
      le-leb _ _ (omega (arith, k.outside, e.2)) in
      rw (h, ← g, e.3) (
        rw (has_handle, fits)
            (ap (λ (p : Pool V C R S F A). (reply.Kept, p))
            (sym (settles setup core1 gets (without_slot n out) counted))),
        counted_settled core1 gets (without_slot n out) counted,
      )
  backs DeskReply.Dropped hand answer e left g =
      let no_handle : (core.handles == 0) ≡ true = eq-eqb core.handles 0 e.1 in
      let all = takes setup core core' gets out n slot k h e.2 in
      rw (h, ← g) (rw no_handle (ap (λ (p : Pool V C R S F A). (reply.Dropped, p)) (sym all.0)), all.1)
  backs DeskReply.Detach hand answer e left g =
      let has_handle : (core.handles == 0) ≡ false = ne_eqb core.handles 0 (omega (arith, e.1)) in
      let full : nat_le (size (image setup core gets out)) core.limit ≡ false =
      lt-leb _ _ (omega (arith, k.outside, e.2)) in
      let all = takes setup core core' gets out n slot k h e.3 in
      let asked = rw left at g in
      rw (h, ← asked.1.1) (
        rw (has_handle, full) (
          asked.0,
          (asked.1.0, ap (λ (p : Pool V C R S F A). (reply.Detached, p)) (sym all.0)),
        ),
        all.1,
      )
  backs DeskReply.Unknown hand answer e left g = absurd (omega (arith, one_outside core gets out n slot k h, e.0))
  backs _ hand answer e left g = absurd e
