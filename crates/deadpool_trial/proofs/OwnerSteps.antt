-- The steps of a pool's owner: another limit, a close and handles, and a take, at the desk and in the pool.
use Rattle.deadpool_trial.proofs.Basics.{eq-eqb, ◌≡◌, ℕ, ◌+◌, ◌-◌, List, [], Bool, true, false, ◌==◌, length, drop}
use Rattle.deadpool_trial.proofs.Basics.{min, max, refl, ap, ◌∙◌, arith, Option, if◌then◌else◌, append-nil, drop_all}
use Rattle.deadpool_trial.proofs.Basics.{most_handles, ◌≢◌, cond, not, nat_lt, Some, None, sym, subst, inl, inr}
use Rattle.deadpool_trial.proofs.Basics.{nat_tests, cases_Bool, Gives, Return, ask, ◌>>=◌}
use Rattle.deadpool_trial.proofs.Words.{DeskState, desk_size as size, settled, desk_given_up as given_up_core, Getting}
use Rattle.deadpool_trial.proofs.Words.{Pool, places, size as pool_size, settle, given_up, resized, closed, cloned}
use Rattle.deadpool_trial.proofs.Words.{handle_dropped, TrialInvariant, Slot, given, Asking, May, Reserve, Does}
use Rattle.deadpool_trial.proofs.Words.{DoesForOwner, desk_resized as resized_core, find_slot, without_slot, one_step}
use Rattle.deadpool_trial.proofs.Words.{by_handle, move_of, reply_to_take, reply_to_owner, OwnerReply, OwnerStep}
use Rattle.deadpool_trial.proofs.Words.{Status, Step, DeskReply, Reply, Setup, image}
use Rattle.deadpool_desk.specs.declared.owner_step.OwnerReply.TheVariants as owner_reply
use Rattle.deadpool_desk.specs.declared.owner_step.OwnerStep.TheVariants as owner
use Rattle.deadpool_trial.specs.declared.moves.Move.TheVariants as move
use Rattle.deadpool_trial.specs.declared.moves.Reply.TheVariants as reply
use Rattle.deadpool_trial.proofs.DeskImage.{settles, same_counted, counted_settled, pool_status, Gives-same}
use Rattle.deadpool_trial.proofs.OutObjects.{takes, one_outside}
use Rattle.deadpool_trial.proofs.TrialSteps.{no_handle, some_handle}

-- below a limit of 0 no place is free
none_free : (b : Bool) (n m : ℕ) → (if b then min n (0 - m) else 0) ≡ 0
none_free true n m = omega arith
none_free false n m = refl

module _ {M V E C R S F A : Type 0} (setup : Setup M F A V E C R S)
    (core core' : DeskState (Slot V)) (gets : List (Option (Getting V C R S))) (out : List (Slot V))
    (k : TrialInvariant core gets out) where
  pub resizes : (n : ℕ) → core'
      ≡ settled (record core { limit = n; reserve = max core.reserve n; idle = drop (given_up_core n core) core.idle })
      → (image setup core' gets out ≡ resized n (image setup core gets out)) × TrialInvariant core' gets out
  resizes n e =
      let p : Pool V C R S F A = image setup core gets out in
      let core1 : DeskState (Slot V) =
      record core { limit = n; reserve = max core.reserve n; idle = drop (given_up_core n core) core.idle } in
      let counted = same_counted core core1 gets out k refl refl refl refl refl in
      let sizes : size core ≡ pool_size p = omega (arith, k.outside) in
      rw e (
        settles setup core1 gets out counted
            ∙ ap
            (λ (m : ℕ).
            settle (record p {
              limit = n;
              reserve = max core.reserve n;
              idle = drop (min (m - n) (length core.idle - min core.min_idle n)) core.idle;
            })) sizes,
        counted_settled core1 gets out counted,
      )

  pub closes : core' ≡ record core { limit = 0; is_open = false; idle = [] }
      → (image setup core' gets out ≡ closed (image setup core gets out)) × TrialInvariant core' gets out
  closes e =
      let p : Pool V C R S F A = image setup core gets out in
      let all : given_up 0 p ≡ length core.idle = omega arith in
      let room : max core.reserve 0 ≡ core.reserve = omega arith in
      rw e (
        rw (
          room,
          all,
          drop_all (length core.idle) core.idle (omega arith),
          none_free core.is_open (length p.waiting) (places p),
          append-nil,
        ) refl,
        same_counted core (record core { limit = 0; is_open = false; idle = [] }) gets out k refl refl refl refl refl,
      )

  pub clones : core' ≡ record core { handles = min (core.handles + 1) most_handles }
      → (image setup core' gets out ≡ cloned (image setup core gets out)) × TrialInvariant core' gets out
  clones e =
      rw e (
        refl,
        same_counted core (record core { handles = min (core.handles + 1) most_handles }) gets out k refl refl refl refl
            refl,
      )

  -- one handle less: the last takes the idle objects with it
  pub drops_handle : (left : ℕ) → left ≡ (if core.handles == most_handles then most_handles else core.handles - 1)
      → core' ≡ record core { handles = left; idle = if left == 0 then [] else core.idle }
      → (image setup core' gets out ≡ handle_dropped (image setup core gets out)) × TrialInvariant core' gets out
  drops_handle left l e =
      let left' : ℕ = if core.handles == most_handles then most_handles else core.handles - 1 in
      rw (e, l) (
        refl,
        same_counted core (record core { handles = left'; idle = if left' == 0 then [] else core.idle }) gets out k
            refl refl refl refl refl,
      )

module _ {M V E C R S F A : Type 0} (may : May V E C R S F A) (memory : (found : Bool) → may Reserve found)
    (setup : Setup M F A V E C R S)
    (core core' : DeskState (Slot V)) (gets : List (Option (Getting V C R S))) (out : List (Slot V))
    (counted : TrialInvariant core gets out) where
  abbrev before : Pool V C R S F A
  before = image setup core gets out

  abbrev after : Pool V C R S F A
  after = image setup core' gets out

  -- an object that is out is known
  pub taken_known : (n : ℕ) (slot : Slot V) (r : DeskReply) → find_slot n out ≡ Some slot
      → Does core Step.Take None r core' → r ≢ DeskReply.Unknown
  taken_known n slot (DeskReply.Taken detach) here t unknown = cc
  taken_known n slot DeskReply.Unknown here t unknown =
      absurd (omega (arith, one_outside core gets out n slot counted here, t.0))
  taken_known n slot _ here t unknown = absurd t

  pub taken : (n : ℕ) (slot : Slot V) (r : DeskReply) (answer : Reply V E) → find_slot n out ≡ Some slot
      → Does core Step.Take None r core' → Gives may (reply_to_take slot.value.value r) answer
      → Gives may (one_step (move.Take n) before) (answer, image setup core' gets (without_slot n out))
      × TrialInvariant core' gets (without_slot n out)
  taken n slot (DeskReply.Taken true) answer here t given =
      let all = takes setup core core' gets out n slot counted here t.2 in
      let some = some_handle true core.handles t.1 refl in
      rw (here, some) (
        (
          given.0,
          (
            given.1.0,
            ap (λ (q : Pool V C R S F A). (reply.Taken given.0, q)) (sym all.0)
                ∙ ap (λ (x : Reply V E). (x, image setup core' gets (without_slot n out))) given.1.1,
          ),
        ),
        all.1,
      )
  taken n slot (DeskReply.Taken false) answer here t given =
      let all = takes setup core core' gets out n slot counted here t.2 in
      let none = no_handle false core.handles t.1 refl in
      rw (here, none) (
        ap (λ (q : Pool V C R S F A). (reply.Taken slot.value.value, q)) (sym all.0)
            ∙ ap (λ (x : Reply V E). (x, image setup core' gets (without_slot n out))) given,
        all.1,
      )
  taken n slot DeskReply.Unknown answer here t given =
      absurd (omega (arith, one_outside core gets out n slot counted here, t.0))
  taken n slot _ answer here t given = absurd t

  -- what a resize asks, whether a handle is left or not, and whether the pool is open or not
  abbrev resizing : ℕ → Bool → Bool → Asking V E C R S F A (Reply V E × Pool V C R S F A)
  resizing n none open_ =
      cond none (Return (reply.NoHandle, before)) (cond (not open_) (Return (reply.Done, before))
      (cond (nat_lt before.reserve n)
      (ask Reserve >>= λ found. Return (cond found (reply.Done, resized n before) (reply.OutOfMemory, before)))
      (Return (reply.Done, resized n before))))

  grows : (n : ℕ) (b : Bool) → after ≡ resized n before
      → Gives {A = Reply V E × Pool V C R S F A} may
      (cond b
      (ask Reserve >>= λ found. Return (cond found (reply.Done, resized n before) (reply.OutOfMemory, before)))
      (Return (reply.Done, resized n before))) (reply.Done, after)
  grows n true is = (true, (memory true, ap (λ (q : Pool V C R S F A). (reply.Done, q)) (sym is)))
  grows n false is = ap (λ (q : Pool V C R S F A). (reply.Done, q)) (sym is)

  -- the pool has another limit, if it is open
  resized_ok : (n : ℕ) → (core.handles == 0) ≡ false → DoesForOwner core (owner.Resize n) owner_reply.Done core'
      → Gives may (one_step (move.Resize n) before) (reply.Done, after) × TrialInvariant core' gets out
  resized_ok n some r =
      elim (cases_Bool core.is_open) [
        | inl open_ ↦
            let is = r ∙ ap (λ b. cond b (resized_core n core) core) open_ in
            let all = resizes setup core core' gets out counted n is in (
              Gives-same may _ (resizing n false true) _
                  (ap (λ b. resizing n b core.is_open) some ∙ ap (resizing n false) open_)
                  (grows n (nat_lt before.reserve n) all.0),
              all.1,
            )
        | inr closed_ ↦
            let is : core' ≡ core = r ∙ ap (λ b. cond b (resized_core n core) core) closed_ in
            let same : before ≡ after = ap (λ (d : DeskState (Slot V)). image setup d gets out) (sym is) in (
              Gives-same may _ (resizing n false false) _
                  (ap (λ b. resizing n b core.is_open) some ∙ ap (resizing n false) closed_)
                  (ap (λ (q : Pool V C R S F A). (reply.Done, q)) same),
              subst (λ (d : DeskState (Slot V)). TrialInvariant d gets out) (sym is) counted,
            )
      ]

  -- and nothing changed if memory was refused
  resized_err : (n : ℕ) → (core.handles == 0) ≡ false → DoesForOwner core (owner.Resize n) owner_reply.OutOfMemory core'
      → Gives may (one_step (move.Resize n) before) (reply.OutOfMemory, after) × TrialInvariant core' gets out
  resized_err n some r =
      let more : nat_lt before.reserve n ≡ true = grind (arith, nat_tests, r.1) in
      let same : before ≡ after = ap (λ (d : DeskState (Slot V)). image setup d gets out) (sym r.2) in (
        Gives-same may _ (resizing n false true) _
            (ap (λ b. resizing n b core.is_open) some ∙ ap (resizing n false) r.0)
            (rw more (false, (memory false, ap (λ (q : Pool V C R S F A). (reply.OutOfMemory, q)) same))),
        subst (λ (d : DeskState (Slot V)). TrialInvariant d gets out) (sym r.2) counted,
      )

  -- a step of the owner, who has a handle
  by_owner : (step : Pool V C R S F A → Pool V C R S F A) → (core.handles == 0) ≡ false
      → (after ≡ step before) × TrialInvariant core' gets out
      → Gives may (Return (by_handle {E = E} (λ q. (reply.Done, step q)) before)) (reply.Done, after)
      × TrialInvariant core' gets out
  by_owner step some all = (
    ap (λ b. cond b (reply.NoHandle, before) (reply.Done, step before)) some
        ∙ ap (λ (q : Pool V C R S F A). (reply.Done, q)) (sym all.0),
    all.1,
  )

  -- he knows how it stands
  stands : (status : Status) → (core.handles == 0) ≡ false
      → DoesForOwner core owner.Status (owner_reply.Stands status) core'
      → Gives may (one_step move.Status before) (reply.Stands status, after) × TrialInvariant core' gets out
  stands status some s = (
    rw (s.1, s.0, some, pool_status setup core gets out counted) refl,
    subst (λ (d : DeskState (Slot V)). TrialInvariant d gets out) (sym s.1) counted,
  )

  upgraded : (core.handles == 0) ≡ false → DoesForOwner core owner.Upgrade owner_reply.Done core'
      → Gives may (one_step move.Upgrade before) (reply.Upgraded true, after) × TrialInvariant core' gets out
  upgraded some u =
      let all = clones setup core core' gets out counted u.1 in (
        ap (λ c. cond c (reply.Upgraded false, before) (reply.Upgraded true, cloned before)) some
            ∙ ap (λ (q : Pool V C R S F A). (reply.Upgraded true, q)) (sym all.0),
        all.1,
      )

  -- the pool of an owner has a handle
  no_owner : {P : Type 0} → (core.handles == 0) ≡ false → core.handles ≡ 0 → P
  no_owner some none = let is = eq-eqb core.handles 0 none in cc

  -- a step of the owner at the desk is his move
  pub made_for_owner : (step : OwnerStep) (r : OwnerReply) → (core.handles == 0) ≡ false
      → DoesForOwner core step r core'
      → Gives may (one_step (move_of step) before) (reply_to_owner step r, after) × TrialInvariant core' gets out
  made_for_owner owner.Status (owner_reply.Stands status) some m = stands status some m
  made_for_owner (owner.Resize n) owner_reply.Done some m = resized_ok n some m
  made_for_owner (owner.Resize n) owner_reply.OutOfMemory some m = resized_err n some m
  made_for_owner owner.Close owner_reply.Done some m = by_owner closed some (closes setup core core' gets out counted m)
  made_for_owner owner.CloneHandle owner_reply.Done some m =
      by_owner cloned some (clones setup core core' gets out counted m.1)
  made_for_owner owner.CloneHandle owner_reply.NoHandle some m = no_owner some m.0
  made_for_owner owner.DropHandle owner_reply.Done some m =
      by_owner handle_dropped some (drops_handle setup core core' gets out counted _ refl m.1)
  made_for_owner owner.DropHandle owner_reply.NoHandle some m = no_owner some m.0
  made_for_owner owner.Upgrade owner_reply.Done some m = upgraded some m
  made_for_owner owner.Upgrade owner_reply.NoHandle some m = no_owner some m.0
  made_for_owner _ _ some m = absurd m

module _ {V E C R S F A : Type 0} (may : May V E C R S F A) (p : Pool V C R S F A) where
  -- nothing has changed for one who has no handle
  pub without_handle : (step : OwnerStep) → (p.handles == 0) ≡ true
      → Gives may (one_step (move_of step) p) (reply_to_owner step owner_reply.NoHandle, p)
  without_handle owner.Status none = rw none refl
  without_handle (owner.Resize n) none = rw none refl
  without_handle owner.Close none = rw none refl
  without_handle owner.CloneHandle none = rw none refl
  without_handle owner.DropHandle none = rw none refl
  without_handle owner.Upgrade none = rw none refl
