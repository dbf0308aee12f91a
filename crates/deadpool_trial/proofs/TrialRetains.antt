-- A retain of a trial: the objects with some numbers are kept, and the manager is told of the others.
use Rattle.deadpool_trial.proofs.Basics.{◌≡◌, ◌≢◌, ℕ, ◌-◌, List, [], ◌∷◌, Bool, true, false, cond, length, ◌==◌, arith}
use Rattle.deadpool_trial.proofs.Basics.{Option, Ok, Err, refl, sym, ap, ◌∙◌, subst, inl, inr, nat_le, AllocError}
use Rattle.deadpool_trial.proofs.Basics.{nat_tests, has_number, Gives, Return, ask, ◌>>=◌, Gives-bind}
use Rattle.deadpool_trial.proofs.Words.{Kept, May, Asking, Detach, Reserve, DeskState}
use Rattle.deadpool_trial.proofs.Words.{desk_least_idle as least_idle_core, Retained, Reviews, Retains, Getting, Pool}
use Rattle.deadpool_trial.proofs.Words.{staying, give_up, retain, retain_with, TrialInvariant, RetainerOf, Slot, Reply}
use Rattle.deadpool_trial.proofs.Words.{Setup, image}
use Rattle.deadpool_trial.specs.declared.moves.Reply.TheVariants as reply
use Rattle.deadpool_trial.proofs.DeskImage.{Gives-same, same_counted}

-- a list of one or more is not empty
busy : {V : Type 0} (s : Slot V) (ss : List (Slot V)) → (length (s ∷ ss) == 0) ≡ false
busy s ss = grind (arith, nat_tests)

module _ {V E C R S F A K : Type 0} (may : May V E C R S F A) (memory : (found : Bool) → may Reserve found)
    (asks : RetainerOf K (Kept V) V) (kept : List ℕ)
    (stays : K → Type 0) (keeps : (r : K) (slot : Slot V) (answer : Bool) (r' : K) → stays r
    → asks.may_keep r slot.number slot.value answer r' → (answer ≡ has_number slot.number kept) × stays r')
    (tells : (r : K) (object : Kept V) (left : V) (r' : K) → stays r → asks.may_detach r object left r'
    → may (Detach object.value) left × stays r') where
  -- those that stay are those of the definition, and the others' values are what the manager left of them
  reviewed : (least idle : ℕ) (slots : List (Slot V)) (r : K) (stay : List (Slot V)) (removed : List V) (r' : K)
      → stays r → Reviews asks least idle slots r stay removed r'
      → (stay ≡ staying kept least idle slots)
      × Gives may (give_up {E = E} {C = C} {R = R} {S = S} {F = F} {A = A} kept least idle slots) removed
  reviewed least idle [] r stay removed r' same ran = (ran.0, sym ran.1)
  reviewed least idle (s ∷ ss) r stay removed r' same (inl (next, others, inl asked, is, rest)) =
      let answered = keeps r s true next same asked in
      let later = reviewed least idle ss next others removed r' answered.1 rest in
      let yes : has_number s.number kept ≡ true = sym answered.0 in
      rw yes (is ∙ ap (λ (xs : List (Slot V)). s ∷ xs) later.0, later.1)
  reviewed least idle (s ∷ ss) r stay removed r' same (inl (next, others, inr (few, asked), is, rest)) =
      let answered = keeps r s false next same asked in
      let later = reviewed least idle ss next others removed r' answered.1 rest in
      let no : has_number s.number kept ≡ false = sym answered.0 in
      let spared : nat_le idle least ≡ true = grind (arith, nat_tests, few) in
      rw (no, spared) (is ∙ ap (λ (xs : List (Slot V)). s ∷ xs) later.0, later.1)
  reviewed least idle (s ∷ ss) r stay removed r' same (inr (next, left, others, (more, given), is, rest)) =
      let answered = keeps r s false given.0 same given.1 in
      let told = tells given.0 s.value left next answered.1 given.2 in
      let later = reviewed least (idle - 1) ss next stay others r' told.1 rest in
      let no : has_number s.number kept ≡ false = sym answered.0 in
      let goes : nat_le idle least ≡ false = grind (arith, nat_tests, more) in
      rw (no, goes) (
        later.0,
        (
          left,
          (
            told.0,
            Gives-bind may (give_up kept least (idle - 1) ss) (λ vs. Return (left ∷ vs)) others removed later.1
                (sym is),
          ),
        ),
      )

  module _ {M : Type 0} (setup : Setup M F A V E C R S)
      (core core' : DeskState (Slot V)) (gets : List (Option (Getting V C R S))) (out : List (Slot V))
      (counted : TrialInvariant core gets out) (some : (core.handles == 0) ≡ false) (r r' : K) (same : stays r) where
    abbrev before : Pool V C R S F A
    before = image setup core gets out

    abbrev least : ℕ
    least = least_idle_core core.limit core

    abbrev after : Pool V C R S F A
    after = image setup core' gets out

    -- what a retain asks, whether a handle is left or not, and whether something is idle or not
    abbrev retaining : Bool → Bool → Asking V E C R S F A (Reply V E × Pool V C R S F A)
    retaining none empty =
        cond none (Return (reply.NoHandle, before))
        (cond empty (Return (reply.Retained record { retained = 0; removed = [] }, before))
        (ask Reserve >>= retain_with kept before))

    still_counted : (idle : List (Slot V)) → core' ≡ record core { idle = idle } → TrialInvariant core' gets out
    still_counted idle is =
        subst (λ (d : DeskState (Slot V)). TrialInvariant d gets out) (sym is)
        (same_counted core (record core { idle = idle }) gets out counted refl refl refl refl refl)

    kept_some : (idle : List (Slot V)) → core.idle ≡ idle → (given : Retained V) (stay : List (Slot V))
        → Reviews asks least (length idle) idle r stay given.removed r' → given.retained ≡ length stay
        → core' ≡ record core { idle = stay }
        → Gives may (retaining false (length idle == 0)) (reply.Retained given, after)
    kept_some [] e given stay ran count is =
        let nothing : stay ≡ [] = ran.0 in
        let unchanged : core' ≡ core =
        is ∙ ap (λ (xs : List (Slot V)). let d : DeskState (Slot V) = record core { idle = xs } in d)
        (nothing ∙ sym e) in
        let as_given : record { retained = 0; removed = [] } ≡ given =
        ap (λ n. let x : Retained V = record { retained = n; removed = [] } in x) (sym (count ∙ ap length nothing)) ∙ ap
        (λ (vs : List V). let x : Retained V = record { retained = given.retained; removed = vs } in x) (sym ran.1) in
        ap (λ (x : Retained V). (reply.Retained x, before)) as_given
        ∙ ap (λ (d : DeskState (Slot V)). (reply.Retained given, image setup d gets out)) (sym unchanged)
    kept_some (s ∷ ss) e given stay ran count is =
        let all = reviewed least (length (s ∷ ss)) (s ∷ ss) r stay given.removed r' same ran in
        let left : List (Slot V) = staying kept least (length core.idle) core.idle in
        let stays : left ≡ stay = ap (λ (xs : List (Slot V)). staying kept least (length xs) xs) e ∙ sym all.0 in
        let gone :
        Gives may (give_up {E = E} {C = C} {R = R} {S = S} {F = F} {A = A} kept least (length core.idle) core.idle)
        given.removed = rw e all.1 in
        let as_given : record { retained = length left; removed = given.removed } ≡ given =
        ap (λ n. let x : Retained V = record { retained = n; removed = given.removed } in x)
        (ap length stays ∙ sym count) in
        let as_after : record before { idle = left } ≡ after =
        ap (λ (xs : List (Slot V)). let p : Pool V C R S F A = record before { idle = xs } in p) stays
        ∙ ap (λ (d : DeskState (Slot V)). image setup d gets out) (sym is) in
        rw (busy s ss) (
          true,
          (
            memory true,
            Gives-bind may (give_up kept least (length core.idle) core.idle)
                (λ vs. Return (
                  reply.Retained record { retained = length left; removed = vs },
                  record before { idle = left },
                )) given.removed (reply.Retained given, after)
                gone (ap (λ (x : Retained V). (reply.Retained x, record before { idle = left })) as_given
                ∙ ap (λ (p : Pool V C R S F A). (reply.Retained given, p)) as_after),
          ),
        )

    pub retained_ok : (given : Retained V) → Retains asks core r (Ok given) core' r'
        → Gives may (retain kept before) (reply.Retained given, after) × TrialInvariant core' gets out
    retained_ok given ran = (
      Gives-same may _ (retaining false (length core.idle == 0)) _ (ap (λ b. retaining b (length core.idle == 0)) some)
          (kept_some core.idle refl given ran.0 ran.1 ran.2 ran.3),
      still_counted ran.0 ran.3,
    )

    refused_some : (idle : List (Slot V)) → idle ≢ [] → core' ≡ core
        → Gives may (retaining false (length idle == 0)) (reply.OutOfMemory, after)
    refused_some [] nonempty unchanged = absurd (nonempty refl)
    refused_some (s ∷ ss) nonempty unchanged =
        rw (busy s ss) (
          false,
          (memory false, ap (λ (d : DeskState (Slot V)). (reply.OutOfMemory, image setup d gets out)) (sym unchanged)),
        )

    pub retained_err : (e : AllocError) → Retains asks core r (Err e) core' r'
        → Gives may (retain kept before) (reply.OutOfMemory, after) × TrialInvariant core' gets out
    retained_err e ran = (
      Gives-same may _ (retaining false (length core.idle == 0)) _ (ap (λ b. retaining b (length core.idle == 0)) some)
          (refused_some core.idle ran.0 ran.1),
      subst (λ (d : DeskState (Slot V)). TrialInvariant d gets out) (sym ran.1) counted,
    )
