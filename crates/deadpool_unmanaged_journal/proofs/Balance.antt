-- The books balance after each step.
use Rattle.deadpool_unmanaged_journal.proofs.Words.{◌≡◌, ℕ, ◌+◌, ◌-◌, ◌<◌, ◌≤◌, Bool, true, false, List, [], ◌∷◌, ◌++◌}
use Rattle.deadpool_unmanaged_journal.proofs.Words.{length, refl, ap, ◌∙◌, Option, Some, None, if◌then◌else◌, ◌==◌}
use Rattle.deadpool_unmanaged_journal.proofs.Words.{arith, length-map, length-append, length-take, subst}
use Rattle.deadpool_unmanaged_journal.proofs.Words.{most_handles, State, size, last_idle, settled, handed, stored}
use Rattle.deadpool_unmanaged_journal.proofs.Words.{without_get, without_add, by_name, silent, Does, DoesForOwner}
use Rattle.deadpool_unmanaged_journal.proofs.Words.{OwnerReply, OwnerStep, Reply, Step, IsStep, Steps, Runs, Entry}
use Rattle.deadpool_unmanaged.specs.declared.step.Reply.TheVariants.{Object, Stored, Closed, Full, Waiting, OutOfMemory}
use Rattle.deadpool_unmanaged.specs.declared.step.Reply.TheVariants.{Crowded, Expired, Done, Kept, Dropped, Taken}
use Rattle.deadpool_unmanaged.specs.declared.step.Reply.TheVariants.{Unknown}
use Rattle.deadpool_unmanaged.specs.declared.step.Step.TheVariants.{GetEnter, GetAsk, GetCancel, AddEnter, AddAsk}
use Rattle.deadpool_unmanaged.specs.declared.step.Step.TheVariants.{AddCancel, Back, Take}
use Rattle.deadpool_unmanaged_journal.specs.Tally.{AreBalanced, answered_get, counted, counted_for_owner, counted_made}
use Rattle.deadpool_unmanaged_journal.specs.Tally.{entered_get, more}
use Rattle.deadpool_unmanaged_journal.specs.Replay.{RunsCounted}
use Rattle.deadpool_unmanaged_journal.specs.declared.entry.Entry.TheVariants.{Made, Owner}
use Rattle.deadpool_unmanaged_journal.specs.declared.owner_step.OwnerReply.TheVariants as owner_reply
use Rattle.deadpool_unmanaged_journal.specs.declared.owner_step.OwnerStep.TheVariants as owner
use Rattle.deadpool_unmanaged_journal.specs.declared.tally.Tally.{Tally}

-- one more was stored
stored_more : (n : ℕ) (t : Tally) → AreBalanced n t → AreBalanced (n + 1) (record t { stored = more t.stored 1 })
stored_more n t h = λ less. omega (arith, h, less)

-- so many were given up, for each cause
taken_more : (n gone : ℕ) (t : Tally) → AreBalanced (n + gone) t
    → AreBalanced n (record t { taken = more t.taken gone })
taken_more n gone t h = λ less. omega (arith, h, less)

dropped_more : (n gone : ℕ) (t : Tally) → AreBalanced (n + gone) t
    → AreBalanced n (record t { dropped = more t.dropped gone })
dropped_more n gone t h = λ less. omega (arith, h, less)

-- the reply to a get changes no book
answered_balanced : (n : ℕ) (reply : Reply) (t : Tally) → AreBalanced n t → AreBalanced n (answered_get reply t)
answered_balanced n Object t h = h
answered_balanced n Full t h = h
answered_balanced n Expired t h = h
answered_balanced n Crowded t h = h
answered_balanced n Closed t h = h
answered_balanced n _ t h = h

entered_balanced : (n : ℕ) (reply : Reply) (t : Tally) → AreBalanced n t → AreBalanced n (entered_get reply t)
entered_balanced n (Waiting ticket) t h = h
entered_balanced n reply t h = answered_balanced n reply t h

module _ {O : Type 0} where
  some_idle : (idle : List O) (value : O) → last_idle idle ≡ Some value → 0 < length idle
  some_idle [] value h = cc
  some_idle (x ∷ xs) value h = omega arith

  -- the next object goes out, and there are as many as before
  handed_size : (d : State O) (value : O) → last_idle d.idle ≡ Some value → size (handed d) ≡ size d
  handed_size d value is =
      let some = some_idle d.idle value is in
      let rest = length-take (length d.idle - 1) d.idle in omega (arith, rest, some)

  stored_size : (d : State O) (value : O) → size (stored value d) ≡ size d + 1
  stored_size d value = let longer = length-append d.idle (value ∷ []) in omega (arith, longer)

  get_enter_size : (d d' : State O) (wait : Bool) (o : Option O) (reply : Reply)
      → Does d (GetEnter wait) o reply d' → size d' ≡ size d
  get_enter_size d d' wait None Closed h = ap size h.1
  get_enter_size d d' wait (Some value) Object h = ap size h.3 ∙ handed_size d value h.2
  get_enter_size d d' wait None Full h = ap size h.3
  get_enter_size d d' wait None Crowded h = ap size h.4
  get_enter_size d d' wait None (Waiting ticket) h = ap size h.5
  get_enter_size d d' wait None OutOfMemory h = ap size h.4
  get_enter_size d d' wait _ _ h = absurd h

  get_ask_size : (d d' : State O) (ticket : ℕ) (expired : Bool) (o : Option O) (reply : Reply)
      → Does d (GetAsk ticket expired) o reply d' → size d' ≡ size d
  get_ask_size d d' ticket expired None Unknown h = ap size h.1
  get_ask_size d d' ticket expired None Closed h = ap size h.2
  get_ask_size d d' ticket expired (Some value) Object h =
      ap size h.3 ∙ handed_size (without_get ticket d) value h.2
  get_ask_size d d' ticket expired None Expired h = ap size h.4
  get_ask_size d d' ticket expired None (Waiting same) h = ap size h.5
  get_ask_size d d' ticket expired _ _ h = absurd h

  -- one that is out goes
  one_less : (d d' : State O) → 0 < d.outside → d' ≡ settled (record d { outside = d.outside - 1 })
      → size d ≡ size d' + 1
  one_less d d' some is = let same = ap size is in omega (arith, same, some)

  -- one more is there
  added_balanced : (d d' was : State O) (value : O) (t : Tally) → size was ≡ size d → d' ≡ settled (stored value was)
      → AreBalanced (size d) t → AreBalanced (size d') (record t { stored = more t.stored 1 })
  added_balanced d d' was value t same is b =
      let more_there : size d' ≡ size d + 1 = let now = ap size is in
      omega (arith, now, stored_size was value, same) in
      rw more_there (stored_more (size d) t b)

  pub made_balanced : (d d' : State O) (step : Step) (o : Option O) (reply : Reply) (t : Tally)
      → Does d step o reply d' → AreBalanced (size d) t → AreBalanced (size d') (counted_made step reply t)
  made_balanced d d' (GetEnter wait) o reply t h b =
      rw (get_enter_size d d' wait o reply h)
      (entered_balanced (size d) reply (record t { gets = more t.gets 1 }) b)
  made_balanced d d' (GetAsk ticket expired) o reply t h b =
      rw (get_ask_size d d' ticket expired o reply h) (answered_balanced (size d) reply t b)
  made_balanced d d' (GetCancel ticket) None Unknown t h b = rw (ap size h.1) b
  made_balanced d d' (GetCancel ticket) None Done t h b = rw (ap size h.1) b
  made_balanced d d' (AddEnter wait) (Some value) Closed t h b = rw (ap size h.1) b
  made_balanced d d' (AddEnter wait) (Some value) Stored t h b =
      added_balanced d d' d value (record t { adds = more t.adds 1 }) refl h.2 b
  made_balanced d d' (AddEnter wait) (Some value) Full t h b = rw (ap size h.3) b
  made_balanced d d' (AddEnter wait) (Some value) Crowded t h b = rw (ap size h.4) b
  made_balanced d d' (AddEnter wait) (Some value) (Waiting ticket) t h b = rw (ap size h.5) b
  made_balanced d d' (AddEnter wait) (Some value) OutOfMemory t h b = rw (ap size h.4) b
  made_balanced d d' (AddAsk ticket) (Some value) Unknown t h b = rw (ap size h.1) b
  made_balanced d d' (AddAsk ticket) (Some value) Closed t h b = rw (ap size h.2) b
  made_balanced d d' (AddAsk ticket) (Some value) Stored t h b =
      added_balanced d d' (without_add ticket d) value t refl h.2 b
  made_balanced d d' (AddAsk ticket) (Some value) (Waiting same) t h b = rw (ap size h.4) b
  made_balanced d d' (AddCancel ticket) None Unknown t h b = rw (ap size h.1) b
  made_balanced d d' (AddCancel ticket) None Done t h b = rw (ap size h.1) b
  made_balanced d d' Back (Some value) Unknown t h b = rw (ap size h.1) b
  made_balanced d d' Back (Some value) Dropped t h b =
      dropped_more (size d') 1 t (rw (one_less d d' h.0 h.2) at b)
  made_balanced d d' Back (Some value) Kept t h b =
      let some = h.0 in
      let now = ap size h.3 in
      let longer = stored_size (record d { outside = d.outside - 1 }) value in
      let same : size d' ≡ size d = omega (arith, now, longer, some) in
      rw same b
  made_balanced d d' Take None Unknown t h b = rw (ap size h.1) b
  made_balanced d d' Take None Taken t h b =
      taken_more (size d') 1 t (rw (one_less d d' h.0 h.1) at b)
  made_balanced d d' _ _ _ t h b = absurd h

  -- No more are there than before, so those that went are the difference.
  went : (d d' : State O) (t : Tally) → size d' ≤ size d → AreBalanced (size d) t
      → AreBalanced (size d' + (size d - size d')) t
  went d d' t fewer b = let same : size d ≡ size d' + (size d - size d') = omega (arith, fewer) in rw same at b

  if_smaller : (b : Bool) (d e : State O) (n : ℕ) → size d ≤ n → size e ≤ n → size (if b then d else e) ≤ n
  if_smaller true d e n one other = one
  if_smaller false d e n one other = other

  pub for_owner_balanced : (d d' : State O) (step : OwnerStep) (reply : OwnerReply) (t : Tally)
      → DoesForOwner d step reply d' → AreBalanced (size d) t
      → AreBalanced (size d') (counted_for_owner (size d - size d') step t)
  for_owner_balanced d d' owner.Status (owner_reply.Stands status) t h b = rw (ap size h.1) b
  for_owner_balanced d d' owner.Close owner_reply.Done t h b =
      let same = ap size h in
      dropped_more (size d') (size d - size d') t (went d d' t (omega (arith, same)) b)
  for_owner_balanced d d' owner.CloneHandle owner_reply.Done t h b = rw (ap size h.1) b
  for_owner_balanced d d' owner.CloneHandle owner_reply.NoHandle t h b = rw (ap size h.1) b
  for_owner_balanced d d' owner.DropHandle owner_reply.Done t h b =
      let left = if d.handles == most_handles then most_handles else d.handles - 1 in
      let same = ap size h.1 in
      let fewer = if_smaller (left == 0) (settled (record d { handles = 0; idle = [] })) (record d { handles = left })
      (size d) (omega arith) (omega arith) in
      dropped_more (size d') (size d - size d') t (went d d' t (omega (arith, same, fewer)) b)
  for_owner_balanced d d' owner.DropHandle owner_reply.NoHandle t h b =
      let same = ap size h.1 in
      dropped_more (size d') (size d - size d') t (went d d' t (omega (arith, same)) b)
  for_owner_balanced d d' owner.Upgrade owner_reply.Done t h b = rw (ap size h.1) b
  for_owner_balanced d d' owner.Upgrade owner_reply.NoHandle t h b = rw (ap size h.1) b
  for_owner_balanced d d' _ _ t h b = absurd h

  -- after any step
  steps_balanced : (d d' : State O) (e : Entry O) (t : Tally) → Steps d e d' → AreBalanced (size d) t
      → AreBalanced (size d') (counted (size d - size d') e t)
  steps_balanced d d' (Made step object reply) t h b = made_balanced d d' step object reply t h b
  steps_balanced d d' (Owner step reply) t h b = for_owner_balanced d d' step reply t h b

  pub step_balanced : (d d' : State O) (e : Entry O) (t : Tally) → IsStep d e d' → AreBalanced (size d) t
      → AreBalanced (size d') (counted (size d - size d') e t)
  step_balanced d d' e t h b =
      let was : size d ≡ size h.0 = ap size h.1.1.1 in
      let now : size d' ≡ size h.1.0 = ap size h.1.1.2 in
      rw (was, now) (steps_balanced h.0 h.1.0 e t h.1.1.0 (rw was at b))

  pub RunsCounted-snoc : (d m d' : State O) (t u : Tally) (es : List (Entry O)) (e : Entry O) → RunsCounted d t es m u
      → IsStep m e d' → RunsCounted d t (es ++ e ∷ []) d' (counted (size m - size d') e u)
  RunsCounted-snoc d m d' t u [] e runs makes = rw (← runs.0, ← runs.1) (d', (makes, (refl, refl)))
  RunsCounted-snoc d m d' t u (x ∷ es) e runs makes =
      (runs.0, (runs.1.0, RunsCounted-snoc runs.0 m d' (counted (size d - size runs.0) x t) u es e runs.1.1 makes))

  -- a run that is counted is a run
  pub runs : (d d' : State O) (t t' : Tally) (es : List (Entry O)) → RunsCounted d t es d' t' → Runs d es d'
  runs d d' t t' [] h = h.0
  runs d d' t t' (e ∷ es) h = (h.0, (h.1.0, runs h.0 d' (counted (size d - size h.0) e t) t' es h.1.1))

module _ {T O : Type 0} (name : T → O) where
  -- there are as many by name
  pub size_named : (d : State T) → size (silent (by_name name d)) ≡ size d
  size_named d = ap (λ (n : ℕ). n + d.outside) (length-map d.idle name)

  -- one step more of a pool is counted as it is by name
  pub counts_on : (first : State O) (was now : State T) (t u : Tally) (es : List (Entry O)) (e : Entry O)
      → RunsCounted first t es (silent (by_name name was)) u
      → IsStep (silent (by_name name was)) e (silent (by_name name now))
      → RunsCounted first t (es ++ e ∷ []) (silent (by_name name now)) (counted (size was - size now) e u)
  counts_on first was now t u es e runs makes =
      let before = silent (by_name name was) in
      let after = silent (by_name name now) in
      let same = ap (λ (n : ℕ). counted (n - size after) e u) (size_named was)
      ∙ ap (λ (n : ℕ). counted (size was - n) e u) (size_named now) in
      subst (λ (x : Tally). RunsCounted first t (es ++ e ∷ []) after x) same
      (RunsCounted-snoc first before after t u es e runs makes)
