-- The books balance after each step.
use Rattle.deadpool_journal.proofs.Words.{◌≡◌, ℕ, ◌+◌, ◌-◌, ◌<◌, ◌≤◌, Bool, true, false, List, [], ◌∷◌, ◌++◌, length}
use Rattle.deadpool_journal.proofs.Words.{refl, ap, ◌∙◌, Option, Some, None, if◌then◌else◌, ◌==◌}
use Rattle.deadpool_journal.proofs.Words.{Ok, Err, arith, inl, inr, cases_Bool, length-map, length-append}
use Rattle.deadpool_journal.proofs.Words.{subst}
use Rattle.deadpool_journal.proofs.Words.{most_handles, QueueMode, Fifo, Lifo, DeskState, next_idle, other_idle}
use Rattle.deadpool_journal.proofs.Words.{settled, Serves, unqueued, given_up, resized, Slot, number_of, numbered}
use Rattle.deadpool_journal.proofs.Words.{Does, DoesForOwner, OwnerReply, OwnerStep, Reply, Step, Removal}
use Rattle.deadpool_journal.proofs.Words.{remaining, IsStep, Runs, Entry}
use Rattle.std.proofs.lemmas.List.{length-drop, length-take}
use Rattle.deadpool_desk.specs.DeskState.{size}
use Rattle.deadpool_desk.specs.declared.owner_step.OwnerReply.TheVariants as owner_reply
use Rattle.deadpool_desk.specs.declared.owner_step.OwnerStep.TheVariants as owner
use Rattle.deadpool_desk.specs.declared.step.Held.TheVariants as held
use Rattle.deadpool_desk.specs.declared.step.Reply.TheVariants.{Object, Create, Going, Exhausted, Closed, Full, Waiting}
use Rattle.deadpool_desk.specs.declared.step.Reply.TheVariants.{Crowded, OutOfMemory, Expired, Done, Number, Kept}
use Rattle.deadpool_desk.specs.declared.step.Reply.TheVariants.{Detach}
use Rattle.deadpool_desk.specs.declared.step.Reply.TheVariants.{Dropped, Taken, Unknown}
use Rattle.deadpool_desk.specs.declared.step.Step.TheVariants.{Enter, Ask, Again, Discard, Created, Failed, Refused}
use Rattle.deadpool_desk.specs.declared.step.Step.TheVariants.{Back, Withdraw, Cancel, Take}
use Rattle.deadpool_journal.specs.Tally.{AreBalanced, answered, counted, counted_for_owner, counted_made}
use Rattle.deadpool_journal.specs.Tally.{entered, more}
use Rattle.deadpool_journal.specs.Replay.{RunsCounted}
use Rattle.deadpool_journal.specs.declared.entry.Entry.TheVariants.{Made, Owner, Retain}
use Rattle.deadpool_journal.specs.declared.tally.Tally.{Tally}

-- one more was created
created_more : (n : ℕ) (t : Tally) → AreBalanced n t → AreBalanced (n + 1) (record t { created = more t.created 1 })
created_more n t h = λ less. omega (arith, h, less)

-- so many were given up, for each cause
refused_more : (n gone : ℕ) (t : Tally) → AreBalanced (n + gone) t
    → AreBalanced n (record t { refused = more t.refused gone })
refused_more n gone t h = λ less. omega (arith, h, less)

cancelled_more : (n gone : ℕ) (t : Tally) → AreBalanced (n + gone) t
    → AreBalanced n (record t { cancelled = more t.cancelled gone })
cancelled_more n gone t h = λ less. omega (arith, h, less)

surplus_more : (n gone : ℕ) (t : Tally) → AreBalanced (n + gone) t
    → AreBalanced n (record t { surplus = more t.surplus gone })
surplus_more n gone t h = λ less. omega (arith, h, less)

not_retained_more : (n gone : ℕ) (t : Tally) → AreBalanced (n + gone) t
    → AreBalanced n (record t { not_retained = more t.not_retained gone })
not_retained_more n gone t h = λ less. omega (arith, h, less)

taken_more : (n gone : ℕ) (t : Tally) → AreBalanced (n + gone) t
    → AreBalanced n (record t { taken = more t.taken gone })
taken_more n gone t h = λ less. omega (arith, h, less)

dropped_more : (n gone : ℕ) (t : Tally) → AreBalanced (n + gone) t
    → AreBalanced n (record t { dropped = more t.dropped gone })
dropped_more n gone t h = λ less. omega (arith, h, less)

-- the reply to a get changes no book
answered_balanced : (n : ℕ) (reply : Reply) (t : Tally) → AreBalanced n t → AreBalanced n (answered reply t)
answered_balanced n (Object left) t h = h
answered_balanced n Create t h = h
answered_balanced n Going t h = h
answered_balanced n Full t h = h
answered_balanced n Expired t h = h
answered_balanced n Crowded t h = h
answered_balanced n Closed t h = h
answered_balanced n _ t h = h

entered_balanced : (n : ℕ) (reply : Reply) (t : Tally) → AreBalanced n t → AreBalanced n (entered reply t)
entered_balanced n (Waiting ticket) t h = h
entered_balanced n reply t h = answered_balanced n reply t h

-- one is served, and there are as many as before
served_size : (mode : QueueMode) (idle : List ℕ) (slot : ℕ) → next_idle mode idle ≡ Some slot
    → length (other_idle mode idle) + 1 ≡ length idle
served_size Fifo [] slot h = cc
served_size Lifo [] slot h = cc
served_size Fifo (x ∷ xs) slot h = let l = length-drop 1 (x ∷ xs) in omega (arith, l)
served_size Lifo (x ∷ xs) slot h = let l = length-take (length (x ∷ xs) - 1) (x ∷ xs) in omega (arith, l)

serves_size : (d d' : DeskState ℕ) (allowance : Option ℕ) (o : Option ℕ) (reply : Reply)
    → Serves d allowance o reply d' → size d' ≡ size d
serves_size d d' allowance (Some slot) (Object left) h =
    let shorter = served_size d.mode d.idle slot h.0 in
    ap (size {O = ℕ}) h.2 ∙ omega (arith, shorter)
serves_size d d' allowance None Going h = ap (size {O = ℕ}) h.2
serves_size d d' allowance None Create h = ap (size {O = ℕ}) h.2
serves_size d d' allowance None Exhausted h = ap (size {O = ℕ}) h.2
serves_size d d' allowance _ _ h = absurd h

enter_size : (d d' : DeskState ℕ) (wait : Bool) (o : Option ℕ) (reply : Reply) → Does d (Enter wait) o reply d'
    → size d' ≡ size d
enter_size d d' wait None Closed h = ap (size {O = ℕ}) h.1
enter_size d d' wait None Full h = ap (size {O = ℕ}) h.3
enter_size d d' wait None Crowded h = ap (size {O = ℕ}) h.4
enter_size d d' wait None (Waiting ticket) h = ap (size {O = ℕ}) h.5
enter_size d d' wait None OutOfMemory h = ap (size {O = ℕ}) h.4
enter_size d d' wait o reply h = serves_size d d' None o reply h.2

ask_size : (d d' : DeskState ℕ) (ticket : ℕ) (expired : Bool) (o : Option ℕ) (reply : Reply)
    → Does d (Ask ticket expired) o reply d' → size d' ≡ size d
ask_size d d' ticket expired None Unknown h = ap (size {O = ℕ}) h.1
ask_size d d' ticket expired None Closed h = ap (size {O = ℕ}) h.2
ask_size d d' ticket expired None Expired h = ap (size {O = ℕ}) h.4
ask_size d d' ticket expired None (Waiting same) h = ap (size {O = ℕ}) h.5
ask_size d d' ticket expired o reply h = serves_size (unqueued ticket d) d' None o reply h.2

again_size : (d d' : DeskState ℕ) (allowance : Option ℕ) (o : Option ℕ) (reply : Reply)
    → Does d (Again allowance) o reply d' → size d' ≡ size d
again_size d d' allowance None Unknown h = ap (size {O = ℕ}) h.1
again_size d d' allowance o reply h = serves_size (record d { going = d.going - 1 }) d' allowance o reply h.1

-- one that is out goes
one_less : (d d' without : DeskState ℕ) → d' ≡ without → without.idle ≡ d.idle → without.outside ≡ d.outside - 1
    → 0 < d.outside → size d ≡ size d' + 1
one_less d d' without is idle outside some =
    let same = ap (size {O = ℕ}) is in
    let there = ap length idle in
    omega (arith, same, there, outside, some)

-- nothing that is there changes
as_many : (d d' without : DeskState ℕ) → d' ≡ without → without.idle ≡ d.idle → without.outside ≡ d.outside
    → size d' ≡ size d
as_many d d' without is idle outside =
    let same = ap (size {O = ℕ}) is in
    let there = ap length idle in
    omega (arith, same, there, outside)

pub made_balanced : (d d' : DeskState ℕ) (step : Step) (o : Option ℕ) (reply : Reply) (t : Tally)
    → Does d step o reply d' → AreBalanced (size d) t → AreBalanced (size d') (counted_made step reply t)
made_balanced d d' (Enter wait) o reply t h b =
    rw (enter_size d d' wait o reply h)
    (entered_balanced (size d) reply (record t { gets = more t.gets 1 }) b)
made_balanced d d' (Ask ticket expired) o reply t h b =
    rw (ask_size d d' ticket expired o reply h) (answered_balanced (size d) reply t b)
made_balanced d d' (Again allowance) o reply t h b = rw (again_size d d' allowance o reply h) b
made_balanced d d' Discard None Done t h b =
    let less = one_less d d' (record d { outside = d.outside - 1; going = d.going + 1 }) h.1 refl refl h.0 in
    refused_more (size d') 1 t (rw less at b)
made_balanced d d' Discard None Unknown t h b = rw (ap (size {O = ℕ}) h.1) b
made_balanced d d' Created None Unknown t h b = rw (ap (size {O = ℕ}) h.1) b
made_balanced d d' Created None (Number number) t h b =
    let more_there : size d' ≡ size d + 1 = ap (size {O = ℕ}) h.2 ∙ omega arith in
    rw more_there (created_more (size d) t b)
made_balanced d d' Failed None Done t h b =
    rw (as_many d d' (settled (record d { creations = d.creations - 1 })) h.1 refl refl) b
made_balanced d d' Failed None Unknown t h b = rw (ap (size {O = ℕ}) h.1) b
made_balanced d d' Refused None Done t h b =
    let less = one_less d d' (settled (record d { outside = d.outside - 1 })) h.1 refl refl h.0 in
    refused_more (size d') 1 t (rw less at b)
made_balanced d d' Refused None Unknown t h b = rw (ap (size {O = ℕ}) h.1) b
made_balanced d d' Back (Some slot) Unknown t h b = rw (ap (size {O = ℕ}) h.1) b
made_balanced d d' Back (Some slot) Dropped t h b =
    let less = one_less d d' (settled (record d { outside = d.outside - 1 })) h.2 refl refl h.0 in
    dropped_more (size d') 1 t (rw less at b)
made_balanced d d' Back (Some slot) Detach t h b =
    let less = one_less d d' (settled (record d { outside = d.outside - 1 })) h.3 refl refl h.0 in
    surplus_more (size d') 1 t (rw less at b)
made_balanced d d' Back (Some slot) Kept t h b =
    let some = h.0 in
    let longer = length-append d.idle (slot ∷ []) in
    let same : size d' ≡ size d = ap (size {O = ℕ}) h.3 ∙ omega (arith, longer, some) in
    rw same b
made_balanced d d' Take None Unknown t h b = rw (ap (size {O = ℕ}) h.1) b
made_balanced d d' Take None (Taken detach) t h b =
    let less = one_less d d' (settled (record d { outside = d.outside - 1 })) h.2 refl refl h.0 in
    taken_more (size d') 1 t (rw less at b)
made_balanced d d' (Withdraw ticket) None Unknown t h b = rw (ap (size {O = ℕ}) h.1) b
made_balanced d d' (Withdraw ticket) None Done t h b =
    rw (as_many d d' (settled (unqueued ticket d)) h.1 refl refl) b
made_balanced d d' (Cancel held.Place) None Done t h b =
    rw (as_many d d' (settled (record d { going = d.going - 1 })) h.1 refl refl) b
made_balanced d d' (Cancel held.Place) None Unknown t h b = rw (ap (size {O = ℕ}) h.1) b
made_balanced d d' (Cancel held.Creation) None Done t h b =
    rw (as_many d d' (settled (record d { creations = d.creations - 1 })) h.1 refl refl) b
made_balanced d d' (Cancel held.Creation) None Unknown t h b = rw (ap (size {O = ℕ}) h.1) b
made_balanced d d' (Cancel held.Object) None Done t h b =
    let less = one_less d d' (settled (record d { outside = d.outside - 1 })) h.1 refl refl h.0 in
    cancelled_more (size d') 1 t (rw less at b)
made_balanced d d' (Cancel held.Object) None Unknown t h b = rw (ap (size {O = ℕ}) h.1) b
made_balanced d d' _ _ _ t h b = absurd h

-- the idle objects that stay are no more than there were
resized_size : (d : DeskState ℕ) (limit : ℕ) → size (resized limit d) ≤ size d
resized_size d limit = let fewer = length-drop (given_up limit d) d.idle in omega (arith, fewer)

none_or_size : (b : Bool) (idle : List ℕ) → length (if b then [] else idle) ≤ length idle
none_or_size true idle = omega arith
none_or_size false idle = omega arith

-- No more are there than before, so those that went are the difference.
went : (d d' : DeskState ℕ) (t : Tally) → size d' ≤ size d → AreBalanced (size d) t
    → AreBalanced (size d' + (size d - size d')) t
went d d' t fewer b = let same : size d ≡ size d' + (size d - size d') = omega (arith, fewer) in rw same at b

resize_size : (d d' : DeskState ℕ) (limit : ℕ) → d' ≡ (if d.is_open then resized limit d else d)
    → size d' ≤ size d
resize_size d d' limit h =
    elim (cases_Bool d.is_open) [
      | inl is_open ↦
          let same : size d' ≡ size (resized limit d) = ap (size {O = ℕ}) (rw is_open at h) in
          omega (arith, same, resized_size d limit)
      | inr closed ↦ let same : size d' ≡ size d = ap (size {O = ℕ}) (rw closed at h) in omega (arith, same)
    ]

for_owner_balanced : (d d' : DeskState ℕ) (step : OwnerStep) (reply : OwnerReply) (t : Tally)
    → DoesForOwner d step reply d' → AreBalanced (size d) t
    → AreBalanced (size d') (counted_for_owner (size d - size d') step t)
for_owner_balanced d d' owner.Status (owner_reply.Stands status) t h b = rw (ap (size {O = ℕ}) h.1) b
for_owner_balanced d d' (owner.Resize limit) owner_reply.Done t h b =
    surplus_more (size d') (size d - size d') t (went d d' t (resize_size d d' limit h) b)
for_owner_balanced d d' (owner.Resize limit) owner_reply.OutOfMemory t h b =
    let same = ap (size {O = ℕ}) h.2 in
    surplus_more (size d') (size d - size d') t (went d d' t (omega (arith, same)) b)
for_owner_balanced d d' owner.Close owner_reply.Done t h b =
    let same = ap (size {O = ℕ}) h in
    surplus_more (size d') (size d - size d') t (went d d' t (omega (arith, same)) b)
for_owner_balanced d d' owner.CloneHandle owner_reply.Done t h b = rw (ap (size {O = ℕ}) h.1) b
for_owner_balanced d d' owner.CloneHandle owner_reply.NoHandle t h b = rw (ap (size {O = ℕ}) h.1) b
for_owner_balanced d d' owner.DropHandle owner_reply.Done t h b =
    let left = if d.handles == most_handles then most_handles else d.handles - 1 in
    let same = ap (size {O = ℕ}) h.1 in
    let fewer = none_or_size (left == 0) d.idle in
    dropped_more (size d') (size d - size d') t (went d d' t (omega (arith, same, fewer)) b)
for_owner_balanced d d' owner.DropHandle owner_reply.NoHandle t h b =
    let same = ap (size {O = ℕ}) h.1 in
    dropped_more (size d') (size d - size d') t (went d d' t (omega (arith, same)) b)
for_owner_balanced d d' owner.Upgrade owner_reply.Done t h b = rw (ap (size {O = ℕ}) h.1) b
for_owner_balanced d d' owner.Upgrade owner_reply.NoHandle t h b = rw (ap (size {O = ℕ}) h.1) b
for_owner_balanced d d' _ _ t h b = absurd h

-- what is left of a list is no longer than it was
remaining-shorter : (at : ℕ) (rs : List Removal) (xs : List ℕ) → length (remaining at rs xs) ≤ length xs
remaining-shorter at [] [] = omega arith
remaining-shorter at (r ∷ rs) [] = omega arith
remaining-shorter at [] (x ∷ xs) = omega arith
remaining-shorter at (r ∷ rs) (x ∷ xs) =
    elim (cases_Bool (r.position == at)) [
      | inl here ↦ rw here (let later = remaining-shorter (at + 1) rs xs in omega (arith, later))
      | inr other ↦ rw other (let later = remaining-shorter (at + 1) (r ∷ rs) xs in omega (arith, later))
    ]

-- after any step
pub step_balanced : (d d' : DeskState ℕ) (e : Entry) (t : Tally) → IsStep d e d' → AreBalanced (size d) t
    → AreBalanced (size d') (counted (size d - size d') e t)
step_balanced d d' (Made step object reply) t h b = made_balanced d d' step object reply t h b
step_balanced d d' (Owner step reply) t h b = for_owner_balanced d d' step reply t h b
step_balanced d d' (Retain (Ok removed)) t h b =
    let same = ap (size {O = ℕ}) h.2 in
    let fewer = remaining-shorter 0 removed d.idle in
    not_retained_more (size d') (size d - size d') t (went d d' t (omega (arith, same, fewer)) b)
step_balanced d d' (Retain (Err refused)) t h b = rw (ap (size {O = ℕ}) h.1) b

RunsCounted-snoc : (d m d' : DeskState ℕ) (t u : Tally) (es : List Entry) (e : Entry) → RunsCounted d t es m u
    → IsStep m e d' → RunsCounted d t (es ++ e ∷ []) d' (counted (size m - size d') e u)
RunsCounted-snoc d m d' t u [] e runs makes = rw (← runs.0, ← runs.1) (d', (makes, (refl, refl)))
RunsCounted-snoc d m d' t u (x ∷ es) e runs makes =
    (runs.0, (runs.1.0, RunsCounted-snoc runs.0 m d' (counted (size d - size runs.0) x t) u es e runs.1.1 makes))

-- a run that is counted is a run
pub runs : (d d' : DeskState ℕ) (t t' : Tally) (es : List Entry) → RunsCounted d t es d' t' → Runs d es d'
runs d d' t t' [] h = h.0
runs d d' t t' (e ∷ es) h = (h.0, (h.1.0, runs h.0 d' (counted (size d - size h.0) e t) t' es h.1.1))

module _ {T : Type 0} where
  pub size_numbered : (d : DeskState (Slot T)) → size (numbered d) ≡ size d
  size_numbered d = ap (λ (n : ℕ). n + d.outside) (length-map d.idle (number_of {T = T}))

  -- one step more of a pool is counted as it is by number
  pub counts_on : (first : DeskState ℕ) (was now : DeskState (Slot T)) (t u : Tally) (es : List Entry) (e : Entry)
      → RunsCounted first t es (numbered was) u → IsStep (numbered was) e (numbered now)
      → RunsCounted first t (es ++ e ∷ []) (numbered now) (counted (size was - size now) e u)
  counts_on first was now t u es e runs makes =
      let same = ap (λ (n : ℕ). counted (n - size (numbered now)) e u) (size_numbered was)
      ∙ ap (λ (n : ℕ). counted (size was - n) e u) (size_numbered now) in
      subst (λ (x : Tally). RunsCounted first t (es ++ e ∷ []) (numbered now) x) same
      (RunsCounted-snoc first (numbered was) (numbered now) t u es e runs makes)
