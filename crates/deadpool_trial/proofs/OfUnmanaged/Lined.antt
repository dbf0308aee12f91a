-- Who is in a queue, as parties change and some leave or join.
use Rattle.deadpool_trial.proofs.OfUnmanaged.Basics.{◌≡◌, ◌≢◌, ℕ, List, [], ◌∷◌, ◌++◌}
use Rattle.deadpool_trial.proofs.OfUnmanaged.Basics.{Bool, true, false, set, refl, sym}
use Rattle.deadpool_trial.proofs.OfUnmanaged.Basics.{ap, ◌∙◌, ◌⊎◌, inl, inr, subst, Option, Some, None, slice_get}
use Rattle.deadpool_trial.proofs.OfUnmanaged.Basics.{and-true, and-false, or-true, or-false, eqb_tells, has_number}
use Rattle.deadpool_trial.proofs.OfUnmanaged.Basics.{without_number, KeepsOrder, Queue, members, joined, without}
use Rattle.deadpool_trial.proofs.OfUnmanaged.Basics.{has_number-append, has_number-without}
use Rattle.deadpool_trial.proofs.OfUnmanaged.Basics.{IsOnce-without, IsOnce-push}
use Rattle.deadpool_trial.proofs.OfUnmanaged.Basics.{order_same, order_without, order_joined, get-set_same}
use Rattle.deadpool_trial.proofs.OfUnmanaged.Basics.{get-set_other, get-append, get-pushed}
use Rattle.deadpool_trial.proofs.OfUnmanaged.Words.{Party, HasQueued, members-without, members-joined}

module _ {V : Type 0} (asks : Option (Option (Party V)) → Bool) where
  -- but for n the same ask as before
  abbrev Others : ℕ → List (Option (Party V)) → List (Option (Party V)) → Type 0
  Others n xs ys = (m : ℕ) → m ≢ n → asks (slice_get ys m) ≡ asks (slice_get xs m)

  -- What a step that names a party, or none, does to a queue and its parties: nobody comes or goes, the party that is
  -- named leaves and asks no more, or n joins, who did not ask before.
  abbrev pub QueueMoves : Option ℕ → Queue → List (Option (Party V)) → Queue → List (Option (Party V)) → Type 0
  QueueMoves named q xs r ys =
      ((r ≡ q) × ((m : ℕ) → asks (slice_get ys m) ≡ asks (slice_get xs m)))
      ⊎ (((n : ℕ) × ((r ≡ without n q) × (named ≡ Some n) × (asks (slice_get ys n) ≡ false) × Others n xs ys))
      ⊎ ((n : ℕ) × ((r ≡ joined n q) × (asks (slice_get xs n) ≡ false) × (asks (slice_get ys n) ≡ true)
      × Others n xs ys)))

  -- the others are as they were when one is set
  pub set_others : (xs : List (Option (Party V))) (n : ℕ) (x : Option (Party V)) → Others n xs (set xs n x)
  set_others xs n x m other = ap asks (get-set_other xs n m x other)

  -- all are, if the one that is set asks as the one before it
  pub set_quiet : (xs : List (Option (Party V))) (n : ℕ) (old new : Option (Party V)) → slice_get xs n ≡ Some old
      → asks (Some new) ≡ asks (Some old) → (m : ℕ)
      → asks (slice_get (set xs n new) m) ≡ asks (slice_get xs m)
  set_quiet xs n old new here same m =
      elim (eqb_tells m n) [
        | inl is ↦ subst (λ (i : ℕ). asks (slice_get (set xs n new) i) ≡ asks (slice_get xs i)) (sym is.1)
            (ap asks (get-set_same xs n old new here) ∙ same ∙ ap asks (sym here))
        | inr other ↦ set_others xs n new m other.1
      ]

  -- or when one more is added at the back, who does not ask
  pub push_quiet : (xs : List (Option (Party V))) (x : Option (Party V)) → asks None ≡ false → asks (Some x) ≡ false
      → (m : ℕ) → asks (slice_get (xs ++ x ∷ []) m) ≡ asks (slice_get xs m)
  push_quiet xs x none quiet m = by_cases (slice_get xs m) refl
    where
      past : slice_get xs m ≡ None → (o : Option (Option (Party V))) → slice_get (xs ++ x ∷ []) m ≡ o → asks o ≡ false
      past e None there = none
      past e (Some y) there =
          elim (get-pushed xs x m y there) [
            | inl old ↦ absurd (let differ = sym e ∙ old in cc)
            | inr is ↦ ap (λ z. asks (Some z)) is ∙ quiet
          ]

      by_cases : (o : Option (Option (Party V))) → slice_get xs m ≡ o
          → asks (slice_get (xs ++ x ∷ []) m) ≡ asks (slice_get xs m)
      by_cases None e = past e (slice_get (xs ++ x ∷ []) m) refl ∙ sym none ∙ ap asks (sym e)
      by_cases (Some y) e = ap asks (get-append xs (x ∷ []) m y e ∙ sym e)

  -- who is left when n leaves
  left_marks : (q : Queue) (xs ys : List (Option (Party V))) (n : ℕ) → HasQueued asks q xs → asks (slice_get ys n)
      ≡ false
      → Others n xs ys
      → (m : ℕ) → has_number m (without_number n (members q)) ≡ asks (slice_get ys m)
  left_marks q xs ys n lined gone others m =
      has_number-without m n (members q)
      ∙ (elim (eqb_tells m n) [
        | inl is ↦ (rw is.0 (and-false (has_number m (members q))))
            ∙ sym (subst (λ (i : ℕ). asks (slice_get ys i) ≡ false) (sym is.1) gone)
        | inr other ↦ (rw other.0 (and-true (has_number m (members q)))) ∙ lined.marks m ∙ sym (others m other.1)
      ])

  -- and when n joins
  joined_marks : (q : Queue) (xs ys : List (Option (Party V))) (n : ℕ) → HasQueued asks q xs
      → has_number n (members q) ≡ false → asks (slice_get ys n) ≡ true → Others n xs ys
      → (m : ℕ) → has_number m (members q ++ n ∷ []) ≡ asks (slice_get ys m)
  joined_marks q xs ys n lined fresh there others m =
      has_number-append m (members q) (n ∷ [])
      ∙ (elim (eqb_tells n m) [
        | inl is ↦ (rw is.0 (or-true (has_number m (members q))))
            ∙ sym (subst (λ (i : ℕ). asks (slice_get ys i) ≡ true) is.1 there)
        | inr other ↦ (rw other.0 (or-false (has_number m (members q)))) ∙ lined.marks m
            ∙ sym (others m (λ e. other.1 (sym e)))
      ])

  -- the step keeps what is true of the queue, and its order
  pub moves_lined : (named : Option ℕ) (q r : Queue) (xs ys : List (Option (Party V))) → HasQueued asks q xs
      → QueueMoves named q xs r ys → HasQueued asks r ys × KeepsOrder (members q) (members r)
  moves_lined named q r xs ys lined (inl same) =
      rw same.0 (record { once = lined.once; marks = λ m. lined.marks m ∙ sym (same.1 m) }, order_same (members q))
  moves_lined named q r xs ys lined (inr (inl (n, (is, names, gone, others)))) =
      let left = members-without n q in
      rw (is, left) (
        record {
          once = rw left (IsOnce-without n (members q) lined.once);
          marks = λ m. ap (has_number m) left ∙ left_marks q xs ys n lined gone others m;
        },
        order_without n (members q),
      )
  moves_lined named q r xs ys lined (inr (inr (n, (is, quiet, there, others)))) =
      let more = members-joined n q in
      let fresh : has_number n (members q) ≡ false = lined.marks n ∙ quiet in
      rw (is, more) (
        record {
          once = rw more (IsOnce-push (members q) n lined.once fresh);
          marks = λ m. ap (has_number m) more ∙ joined_marks q xs ys n lined fresh there others m;
        },
        order_joined n (members q) fresh,
      )

  -- who leaves is the party that is named
  pub moves_stay : (named : Option ℕ) (q r : Queue) (xs ys : List (Option (Party V))) → QueueMoves named q xs r ys
      → (n : ℕ) → has_number n (members q) ≡ true → has_number n (members r) ≡ false
      → named ≡ Some n
  moves_stay named q r xs ys (inl same) n was gone =
      absurd (let differ : true ≡ false = sym was ∙ ap (λ (s : Queue). has_number n (members s)) (sym same.0) ∙ gone in
      cc)
  moves_stay named q r xs ys (inr (inl (k, (is, names, quiet, others)))) n was gone =
      elim (eqb_tells n k) [
        | inl same ↦ names ∙ ap Some (sym same.1)
        | inr other ↦ absurd (
            let left : has_number n (members r) ≡ has_number n (members q) =
            ap (λ (s : Queue). has_number n (members s)) is ∙ ap (has_number n) (members-without k q)
            ∙ has_number-without n k (members q) ∙ (rw other.0 (and-true (has_number n (members q)))) in
            let differ : true ≡ false = sym was ∙ sym left ∙ gone in
            cc)
      ]
  moves_stay named q r xs ys (inr (inr (k, (is, quiet, there, others)))) n was gone = absurd (
      let more : has_number n (members r) ≡ true =
      ap (λ (s : Queue). has_number n (members s)) is ∙ ap (has_number n) (members-joined k q)
      ∙ has_number-append n (members q) (k ∷ []) ∙ (rw was refl) in
      let differ : true ≡ false = sym more ∙ gone in
      cc)
