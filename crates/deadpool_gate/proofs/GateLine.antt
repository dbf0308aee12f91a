-- What every step of a gate keeps of its line: each kind of step is a waiter that leaves, one that is changed in its
-- place, or one that comes last.
use Rattle.std.proofs.Common.{◌≡◌, ℕ, Bool, true, false, not, ◌||◌, eqb, List, [], ◌∷◌, ◌++◌, None, refl, sym, ◌∙◌, inl}
use Rattle.std.proofs.Common.{inr}
use Rattle.std.specs.List.{find}
use Rattle.std.proofs.lemmas.Bool.{cases_Bool, both_ways, ne_eqb, eqb-false, not_from_false, and_cases, and_parts}
use Rattle.std.proofs.lemmas.Bool.{or_parts}
use Rattle.deadpool_gate.specs.Gate.{Waiter, arrived, find_waiter, remove_first, change_first, without_waiter}
use Rattle.deadpool_gate.specs.Gate.{with_place, with_word, grant_next, is_due, tell_next, IsApart, NonePass, IsFront}
use Rattle.deadpool_gate.specs.Gate.{ToldAreDone, IsLine}
use Rattle.deadpool_gate.proofs.GateListed.{find_none-head, find_none-tail, find_none-none_pass, change_first_none}

module _ (test : Waiter → Bool) where
  -- a waiter leaves

  find_none-remove_first : (p : Waiter → Bool) (ws : List Waiter) → find p ws ≡ None
      → find p (remove_first test ws) ≡ None
  find_none-remove_first p [] none = refl
  find_none-remove_first p (w ∷ ws) none =
      let rest = find_none-tail p w ws none in
      elim (cases_Bool (test w)) [
        | inl here ↦ rw here rest
        | inr later ↦ rw (later, find_none-head p w ws none) (find_none-remove_first p ws rest)
      ]

  IsApart-remove_first : (ws : List Waiter) → IsApart ws → IsApart (remove_first test ws)
  IsApart-remove_first [] apart = tt
  IsApart-remove_first (w ∷ ws) apart =
      elim (cases_Bool (test w)) [
        | inl here ↦ rw here apart.1
        | inr later ↦ rw later (
          find_none-remove_first (λ v. eqb v.ticket w.ticket) ws apart.0,
          IsApart-remove_first ws apart.1,
        )
      ]

  NonePass-remove_first : (p : Waiter → Bool) (ws : List Waiter) → NonePass p ws → NonePass p (remove_first test ws)
  NonePass-remove_first p [] none = tt
  NonePass-remove_first p (w ∷ ws) none =
      elim (cases_Bool (test w)) [
        | inl here ↦ rw here none.1
        | inr later ↦ rw later (none.0, NonePass-remove_first p ws none.1)
      ]

  IsFront-remove_first : (p : Waiter → Bool) (ws : List Waiter) → IsFront p ws → IsFront p (remove_first test ws)
  IsFront-remove_first p [] front = tt
  IsFront-remove_first p (w ∷ ws) front =
      elim (cases_Bool (test w)) [
        | inl here ↦ rw here front.1
        | inr later ↦ rw later (λ fails. NonePass-remove_first p ws (front.0 fails), IsFront-remove_first p ws front.1)
      ]

  ToldAreDone-remove_first : (is_closed : Bool) (ws : List Waiter) → ToldAreDone is_closed ws
      → ToldAreDone is_closed (remove_first test ws)
  ToldAreDone-remove_first c [] done = tt
  ToldAreDone-remove_first c (w ∷ ws) done =
      elim (cases_Bool (test w)) [
        | inl here ↦ rw here done.1
        | inr later ↦ rw later (done.0, ToldAreDone-remove_first c ws done.1)
      ]

  -- a waiter is changed in its place in the line, and keeps its ticket

  module _ (change : Waiter → Waiter) (same : (w : Waiter) → (change w).ticket ≡ w.ticket) where
    find_none-changed : (key : ℕ) (ws : List Waiter) → find_waiter key ws ≡ None
        → find_waiter key (change_first test change ws) ≡ None
    find_none-changed key [] none = refl
    find_none-changed key (w ∷ ws) none =
        let fails = find_none-head (λ v. eqb v.ticket key) w ws none in
        let rest = find_none-tail (λ v. eqb v.ticket key) w ws none in
        elim (cases_Bool (test w)) [
          | inl here ↦ rw (here, same w, fails) rest
          | inr later ↦ rw (later, fails) (find_none-changed key ws rest)
        ]

    IsApart-changed : (ws : List Waiter) → IsApart ws → IsApart (change_first test change ws)
    IsApart-changed [] apart = tt
    IsApart-changed (w ∷ ws) apart =
        elim (cases_Bool (test w)) [
          | inl here ↦ rw (here, same w) apart
          | inr later ↦ rw later (find_none-changed w.ticket ws apart.0, IsApart-changed ws apart.1)
        ]

  -- and passes another test as it did before
  module _ (change : Waiter → Waiter) (p : Waiter → Bool) (same : (w : Waiter) → p (change w) ≡ p w) where
    NonePass-changed : (ws : List Waiter) → NonePass p ws → NonePass p (change_first test change ws)
    NonePass-changed [] none = tt
    NonePass-changed (w ∷ ws) none =
        elim (cases_Bool (test w)) [
          | inl here ↦ rw here (same w ∙ none.0, none.1)
          | inr later ↦ rw later (none.0, NonePass-changed ws none.1)
        ]

    IsFront-changed : (ws : List Waiter) → IsFront p ws → IsFront p (change_first test change ws)
    IsFront-changed [] front = tt
    IsFront-changed (w ∷ ws) front =
        elim (cases_Bool (test w)) [
          | inl here ↦ rw here (λ fails. front.0 (sym (same w) ∙ fails), front.1)
          | inr later ↦ rw later (λ fails. NonePass-changed ws (front.0 fails), IsFront-changed ws front.1)
        ]

  -- who is told of what has happened is done; so is who was told and gets a place
  ToldAreDone-changed : (is_closed : Bool) (change : Waiter → Waiter)
      → ((w : Waiter) → test w ≡ true → ((change w).granted || is_closed) ≡ true) → (ws : List Waiter)
      → ToldAreDone is_closed ws → ToldAreDone is_closed (change_first test change ws)
  ToldAreDone-changed c change ends [] done = tt
  ToldAreDone-changed c change ends (w ∷ ws) done =
      elim (cases_Bool (test w)) [
        | inl here ↦ rw here (λ _. ends w here, done.1)
        | inr later ↦ rw later (done.0, ToldAreDone-changed c change ends ws done.1)
      ]

-- the first without a place gets one, so those with a place are still the front
pub granted_front-grant_next : (ws : List Waiter) → IsFront (λ w. w.granted) ws
    → IsFront (λ w. w.granted) (grant_next ws)
granted_front-grant_next [] front = tt
granted_front-grant_next (w ∷ ws) front =
    elim (cases_Bool w.granted) [
      | inl has ↦ rw has (λ fails. absurd (both_ways _ fails refl), granted_front-grant_next ws front.1)
      | inr lacks ↦ rw lacks (λ fails. absurd (both_ways _ fails refl), front.1)
    ]

-- who was not told and is not due has no place, in an open line
waits : (is_closed : Bool) (w : Waiter) → is_due is_closed w ≡ false → w.told ≡ false
    → (w.granted ≡ false) × (is_closed ≡ false)
waits c w later fails =
    elim (and_cases (w.granted || c) (not w.told) later) [
      | inl lacks ↦ or_parts w.granted c lacks
      | inr told ↦ absurd (both_ways _ told (not_from_false w.told fails))
    ]

-- an open line ends the wait of those with a place alone
pub has_place : (granted : Bool) → (granted || false) ≡ true → granted ≡ true
has_place true ended = refl
has_place false ended = ended

is_due-granted : (w : Waiter) → is_due false w ≡ true → w.granted ≡ true
is_due-granted w due = has_place w.granted (and_parts (w.granted || false) (not w.told) due).0

-- if nobody has a place in an open line, nobody is due
pub none_due-open : (is_closed : Bool) (ws : List Waiter) → is_closed ≡ false → NonePass (λ w. w.granted) ws
    → find (is_due is_closed) ws ≡ None
none_due-open c ws is none = rw is (find_none-none_pass (is_due false) (λ w. w.granted) is_due-granted ws none)

-- so the earliest that is due is the earliest that was not told, and those that were told are still the front
told_front-tell_next : (is_closed : Bool) (ws : List Waiter) → IsFront (λ w. w.granted) ws → IsFront (λ w. w.told) ws
    → IsFront (λ w. w.told) (tell_next is_closed ws)
told_front-tell_next c [] granted told = tt
told_front-tell_next c (w ∷ ws) granted told =
    elim (cases_Bool (is_due c w)) [
      | inl due ↦ rw due (λ fails. absurd (both_ways _ fails refl), told.1)
      | inr later ↦
          rw later (
            λ fails.
                let lacks = waits c w later fails in
                rw (change_first_none (is_due c) with_word ws (none_due-open c ws lacks.1 (granted.0 lacks.0)))
                (told.0 fails),
            told_front-tell_next c ws granted.1 told.1,
          )
    ]

is_due-done : (is_closed : Bool) (w : Waiter) → is_due is_closed w ≡ true → (w.granted || is_closed) ≡ true
is_due-done c w due = (and_parts (w.granted || c) (not w.told) due).0

module _ (key : ℕ) where
  -- a waiter comes last

  find_none-arrived : (other : ℕ) (ws : List Waiter) → eqb key other ≡ false → find_waiter other ws ≡ None
      → find_waiter other (ws ++ arrived key ∷ []) ≡ None
  find_none-arrived other [] differs none = rw differs refl
  find_none-arrived other (w ∷ ws) differs none =
      rw (find_none-head (λ v. eqb v.ticket other) w ws none)
      (find_none-arrived other ws differs (find_none-tail (λ v. eqb v.ticket other) w ws none))

  IsApart-arrived : (ws : List Waiter) → find_waiter key ws ≡ None → IsApart ws → IsApart (ws ++ arrived key ∷ [])
  IsApart-arrived [] fresh apart = (refl, tt)
  IsApart-arrived (w ∷ ws) fresh apart =
      let differs = eqb-false w.ticket key (find_none-head (λ v. eqb v.ticket key) w ws fresh) in (
        find_none-arrived w.ticket ws (ne_eqb key w.ticket (λ same. differs (sym same))) apart.0,
        IsApart-arrived ws (find_none-tail (λ v. eqb v.ticket key) w ws fresh) apart.1,
      )

  NonePass-arrived : (p : Waiter → Bool) (ws : List Waiter) → p (arrived key) ≡ false → NonePass p ws
      → NonePass p (ws ++ arrived key ∷ [])
  NonePass-arrived p [] fails none = (fails, tt)
  NonePass-arrived p (w ∷ ws) fails none = (none.0, NonePass-arrived p ws fails none.1)

  IsFront-arrived : (p : Waiter → Bool) (ws : List Waiter) → p (arrived key) ≡ false → IsFront p ws
      → IsFront p (ws ++ arrived key ∷ [])
  IsFront-arrived p [] fails front = (λ _. tt, tt)
  IsFront-arrived p (w ∷ ws) fails front =
      (λ here. NonePass-arrived p ws fails (front.0 here), IsFront-arrived p ws fails front.1)

  ToldAreDone-arrived : (is_closed : Bool) (ws : List Waiter) → ToldAreDone is_closed ws
      → ToldAreDone is_closed (ws ++ arrived key ∷ [])
  ToldAreDone-arrived c [] done = (λ told. absurd (both_ways _ refl told), tt)
  ToldAreDone-arrived c (w ∷ ws) done = (done.0, ToldAreDone-arrived c ws done.1)

or_true : (b : Bool) → (b || true) ≡ true
or_true true = refl
or_true false = refl

done-closed : (is_closed : Bool) (ws : List Waiter) → ToldAreDone is_closed ws → ToldAreDone true ws
done-closed c [] done = tt
done-closed c (w ∷ ws) done = (λ _. or_true w.granted, done-closed c ws done.1)

pub IsLine-without_waiter : (is_closed : Bool) (key : ℕ) (ws : List Waiter) → IsLine is_closed ws
    → IsLine is_closed (without_waiter key ws)
IsLine-without_waiter c key ws line =
    record {
      apart = IsApart-remove_first (λ v. eqb v.ticket key) ws line.apart;
      granted_front = IsFront-remove_first (λ v. eqb v.ticket key) (λ v. v.granted) ws line.granted_front;
      told_front = IsFront-remove_first (λ v. eqb v.ticket key) (λ v. v.told) ws line.told_front;
      told_done = ToldAreDone-remove_first (λ v. eqb v.ticket key) c ws line.told_done;
    }

pub IsLine-grant_next : (is_closed : Bool) (ws : List Waiter) → IsLine is_closed ws → IsLine is_closed (grant_next ws)
IsLine-grant_next c ws line =
    record {
      apart = IsApart-changed (λ v. not v.granted) with_place (λ _. refl) ws line.apart;
      granted_front = granted_front-grant_next ws line.granted_front;
      told_front = IsFront-changed (λ v. not v.granted) with_place (λ v. v.told) (λ _. refl) ws line.told_front;
      told_done = ToldAreDone-changed (λ v. not v.granted) c with_place (λ _ _. refl) ws line.told_done;
    }

pub IsLine-tell_next : (is_closed : Bool) (ws : List Waiter) → IsLine is_closed ws
    → IsLine is_closed (tell_next is_closed ws)
IsLine-tell_next c ws line =
    record {
      apart = IsApart-changed (is_due c) with_word (λ _. refl) ws line.apart;
      granted_front = IsFront-changed (is_due c) with_word (λ v. v.granted) (λ _. refl) ws line.granted_front;
      told_front = told_front-tell_next c ws line.granted_front line.told_front;
      told_done = ToldAreDone-changed (is_due c) c with_word (is_due-done c) ws line.told_done;
    }

pub IsLine-arrived : (is_closed : Bool) (key : ℕ) (ws : List Waiter) → find_waiter key ws ≡ None → IsLine is_closed ws
    → IsLine is_closed (ws ++ arrived key ∷ [])
IsLine-arrived c key ws fresh line =
    record {
      apart = IsApart-arrived key ws fresh line.apart;
      granted_front = IsFront-arrived key (λ v. v.granted) ws refl line.granted_front;
      told_front = IsFront-arrived key (λ v. v.told) ws refl line.told_front;
      told_done = ToldAreDone-arrived key c ws line.told_done;
    }

pub IsLine-closed : (is_closed : Bool) (ws : List Waiter) → IsLine is_closed ws → IsLine true ws
IsLine-closed c ws line =
    record {
      apart = line.apart;
      granted_front = line.granted_front;
      told_front = line.told_front;
      told_done = done-closed c ws line.told_done;
    }
