-- Who in a table has the tickets of a queue, as one of them changes, leaves the queue or joins it.
use Rattle.std.proofs.Common.{◌≡◌, ◌≢◌, ℕ, ◌+◌, ◌<◌, zero, suc, List, [], ◌∷◌, ◌++◌, Bool, true, false, cond, not, ◌||◌}
use Rattle.std.proofs.Common.{◌&&◌, eqb, length, set, map, refl, sym, ap, ◌∙◌, subst, arith, inl, inr, Some, eq-eqb}
use Rattle.std.proofs.Common.{eqb-true}
use Rattle.std.specs.List.{slice_get}
use Rattle.std.proofs.lemmas.Bool.{cases_Bool, and_parts, not-true, or_cases, or_left, or_right}
use Rattle.std.proofs.lemmas.Bool.Decides.{eqb_tells}
use Rattle.std.proofs.lemmas.List.{map-append}
use Rattle.std.proofs.lemmas.Option.{slice_get_within}
use Rattle.deadpool_gate.specs.Numbers.{has_number, without_number}
use Rattle.deadpool_gate.specs.Queue.{Queue, is_listed, joined, without, renamed, granting}
use Rattle.deadpool_gate.specs.Owners.{owner, TicketsMatch}
use Rattle.deadpool_gate.proofs.Numbers.{differs_sym, has_number-without, has_number-moved, has_number-joined}
use Rattle.deadpool_gate.proofs.Numbers.{has_number-parted, without_number-same, map_same, Tells, has_number-map}
use Rattle.deadpool_gate.proofs.Numbers.{without-map, absent-map}
use Rattle.deadpool_gate.proofs.Lists.{get-set_same, get-set_other, get-append, get-pushed}

-- who is listed after one joins, leaves, or some are granted what they ask for
pub is_listed-joined : (u t : ℕ) (q : Queue) → is_listed u (joined t q) ≡ (is_listed u q || eqb t u)
is_listed-joined u t q = has_number-joined u t q.granted q.waiting

pub is_listed-without : (u t : ℕ) (q : Queue) → is_listed u (without t q) ≡ (is_listed u q && not (eqb u t))
is_listed-without u t q = has_number-parted u t q.granted q.waiting

pub is_listed-granting : (u k : ℕ) (q : Queue) → is_listed u (granting k q) ≡ is_listed u q
is_listed-granting u k q = has_number-moved u k q.granted q.waiting

-- two names that agree on the queue
pub renamed-same : (f g : ℕ → ℕ) (q : Queue) → ((u : ℕ) → is_listed u q ≡ true → f u ≡ g u) → renamed f q ≡ renamed g q
renamed-same f g q same =
    let granted = map_same f g q.granted (λ u k. same u (or_left _ _ k)) in
    let waiting = map_same f g q.waiting (λ u k. same u (or_right _ _ k)) in
    rw (granted, waiting) refl

-- one joins under another name
renamed-joined : (f : ℕ → ℕ) (t : ℕ) (q : Queue) → renamed f (joined t q) ≡ joined (f t) (renamed f q)
renamed-joined f t q = rw (map-append f q.waiting (t ∷ [])) refl

module _ {X : Type 0} (has : ℕ → X → Bool) where
  abbrev pub NoTicket : X → Type 0
  NoTicket x = (u : ℕ) → has u x ≡ false

  -- this ticket and no other
  abbrev pub OneTicket : ℕ → X → Type 0
  OneTicket t x = (u : ℕ) → has u x ≡ eqb t u

  -- an entry changes, and the ticket has the same owner
  owner-set : (xs : List X) (n : ℕ) (old new : X) (u : ℕ) → slice_get xs n ≡ Some old → has u old ≡ has u new
      → owner has (set xs n new) u ≡ owner has xs u
  owner-set [] n old new u h e = refl
  owner-set (x ∷ xs) zero old new u h e =
      let same : x ≡ old = cc in
      ap (λ b. cond b 0 (owner has xs u + 1)) (sym e ∙ ap (has u) (sym same))
  owner-set (x ∷ xs) (suc n) old new u h e = ap (λ m. cond (has u x) 0 (m + 1)) (owner-set xs n old new u h e)

  -- a ticket that nobody had is the new entry's
  owner-new : (xs : List X) (n : ℕ) (old new : X) (t : ℕ) → slice_get xs n ≡ Some old → has t new ≡ true
      → ((m : ℕ) (x : X) → slice_get xs m ≡ Some x → has t x ≡ false) → owner has (set xs n new) t ≡ n
  owner-new [] n old new t h is f = cc
  owner-new (x ∷ xs) zero old new t h is f = ap (λ b. cond b 0 (owner has xs t + 1)) is
  owner-new (x ∷ xs) (suc n) old new t h is f =
      let rest : owner has (set xs n new) t ≡ n = owner-new xs n old new t h is (λ m y k. f (suc m) y k) in
      ap (λ b. cond b 0 (owner has (set xs n new) t + 1)) (f zero x refl) ∙ (rw rest (omega arith))

  -- an owner stays when one more is added at the back
  owner-push : (xs : List X) (y : X) (u : ℕ) → owner has xs u < length xs → owner has (xs ++ y ∷ []) u ≡ owner has xs u
  owner-push [] y u within = absurd (omega (arith, within))
  owner-push (x ∷ xs) y u within =
      elim (cases_Bool (has u x)) [
        | inl here ↦ rw here refl
        | inr later ↦ let rest : owner has xs u < length xs = let w = rw later at within in omega (arith, w) in
            rw (later, owner-push xs y u rest) refl
      ]

module _ {X : Type 0} (has : ℕ → X → Bool) (q : Queue) (xs : List X) (o : TicketsMatch has q xs) where
  -- the same tickets in another order
  pub owned-like : (r : Queue) → ((u : ℕ) → is_listed u r ≡ is_listed u q) → TicketsMatch has r xs
  owned-like r same = record {
    owned = λ u k. o.owned u (sym (same u) ∙ k);
    listed = λ n u x there holds. let l = o.listed n u x there holds in (same u ∙ l.0, l.1);
  }

  -- some are granted what they ask for
  pub owned-granting : (k : ℕ) → TicketsMatch has (granting k q) xs
  owned-granting k = owned-like (granting k q) (λ u. is_listed-granting u k q)

  -- an entry without a ticket owns none
  not_owner : (n : ℕ) (old : X) (t : ℕ) → slice_get xs n ≡ Some old → has t old ≡ false → is_listed t q ≡ true
      → owner has xs t ≢ n
  not_owner n old t h none k e =
      let w = o.owned t k in
      let there : slice_get xs n ≡ Some w.0 = subst (λ (i : ℕ). slice_get xs i ≡ Some w.0) e w.1.0 in
      let same : old ≡ w.0 = cc in
      let is : has t old ≡ true = ap (has t) same ∙ w.1.1 in
      let differ : true ≡ false = sym is ∙ none in cc

  -- a ticket that is not in the queue is nobody's
  fresh_ticket : (t : ℕ) → is_listed t q ≡ false → (m : ℕ) (x : X) → slice_get xs m ≡ Some x → has t x ≡ false
  fresh_ticket t fresh m x there =
      elim (cases_Bool (has t x)) [
        | inl holds ↦ let l = o.listed m t x there holds in let differ : true ≡ false = sym l.0 ∙ fresh in cc
        | inr none ↦ none
      ]

  -- an entry without a ticket is added at the back
  pub owned-push : (new : X) → NoTicket has new → TicketsMatch has q (xs ++ new ∷ [])
  owned-push new none =
      record {
        owned = λ u k.
            let w = o.owned u k in (
              w.0,
              (
                rw (owner-push has xs new u (slice_get_within xs (owner has xs u) w.0 w.1.0))
                    (get-append xs (new ∷ []) (owner has xs u) w.0 w.1.0),
                w.1.1,
              ),
            );
        listed = λ n u x there holds.
            elim (get-pushed xs new n x there) [
              | inl old ↦
                  let l = o.listed n u x old holds in
                  let at : owner has xs u < length xs = let w = slice_get_within xs n x old in rw (← l.1) at w in
                  (l.0, owner-push has xs new u at ∙ l.1)
              | inr is ↦ absurd (let differ : true ≡ false = sym holds ∙ ap (has u) is ∙ none u in cc)
            ];
      }

  -- and the names are as they were
  pub renamed-push : (new : X) → renamed (owner has (xs ++ new ∷ [])) q ≡ renamed (owner has xs) q
  renamed-push new =
      renamed-same (owner has (xs ++ new ∷ [])) (owner has xs) q
      (λ u k. let w = o.owned u k in owner-push has xs new u (slice_get_within xs (owner has xs u) w.0 w.1.0))

  module _ (n : ℕ) (old new : X) (h : slice_get xs n ≡ Some old) where
    -- what stands at n afterwards
    here_new : (x : X) (m : ℕ) → m ≡ n → slice_get (set xs n new) m ≡ Some x → new ≡ x
    here_new x m e there =
        let at_n : slice_get (set xs n new) n ≡ Some x =
        subst (λ (i : ℕ). slice_get (set xs n new) i ≡ Some x) e there in
        let is : slice_get (set xs n new) n ≡ Some new = get-set_same xs n old new h in cc

    -- and it has no ticket that the new entry lacks
    here_none : (x : X) (m u : ℕ) → m ≡ n → slice_get (set xs n new) m ≡ Some x → has u x ≡ true → has u new ≡ false → ⊥
    here_none x m u e there holds none =
        let is : has u new ≡ true = ap (has u) (here_new x m e there) ∙ holds in
        let differ : true ≡ false = sym is ∙ none in cc

    -- ---- an entry without a ticket changes, and gets none

    pub owned-set : NoTicket has old → NoTicket has new → TicketsMatch has q (set xs n new)
    owned-set none no_new =
        let same : (u : ℕ) → owner has (set xs n new) u ≡ owner has xs u =
        λ u. owner-set has xs n old new u h (none u ∙ sym (no_new u)) in
        record {
          owned = λ u k. let w = o.owned u k in (
            w.0,
            (rw (same u, get-set_other xs n (owner has xs u) new (not_owner n old u h (none u) k)) w.1.0, w.1.1),
          );
          listed = λ m u x there holds.
              elim (eqb_tells m n) [
                | inl y ↦ absurd (here_none x m u y.1 there holds (no_new u))
                | inr other ↦ let l = o.listed m u x (sym (get-set_other xs n m new other.1) ∙ there) holds in
                    (l.0, same u ∙ l.1)
              ];
        }

    pub renamed-set : NoTicket has old → NoTicket has new
        → renamed (owner has (set xs n new)) q ≡ renamed (owner has xs) q
    renamed-set none no_new =
        renamed-same (owner has (set xs n new)) (owner has xs) q
        (λ u k. owner-set has xs n old new u h (none u ∙ sym (no_new u)))

    -- it is not in the queue
    pub absent : NoTicket has old → without n (renamed (owner has xs) q) ≡ renamed (owner has xs) q
    absent none =
        let granted = without_number-same n (map (owner has xs) q.granted)
        (absent-map (owner has xs) n q.granted (λ u k. not_owner n old u h (none u) (or_left _ _ k))) in
        let waiting = without_number-same n (map (owner has xs) q.waiting)
        (absent-map (owner has xs) n q.waiting (λ u k. not_owner n old u h (none u) (or_right _ _ k))) in
        rw (granted, waiting) refl

    -- ---- an entry with a ticket leaves the queue

    pub owned-leaves : (t : ℕ) → owner has xs t ≡ n → OneTicket has t old → NoTicket has new
        → TicketsMatch has (without t q) (set xs n new)
    owned-leaves t mine one no_new =
        let same : (u : ℕ) → eqb t u ≡ false → owner has (set xs n new) u ≡ owner has xs u =
        λ u differs. owner-set has xs n old new u h (one u ∙ differs ∙ sym (no_new u)) in
        record {
          owned = λ u k.
              let both : (is_listed u q && not (eqb u t)) ≡ true = sym (is_listed-without u t q) ∙ k in
              let was : is_listed u q ≡ true = (and_parts (is_listed u q) (not (eqb u t)) both).0 in
              let other : eqb t u ≡ false =
              differs_sym u t (not-true (eqb u t) (and_parts (is_listed u q) (not (eqb u t)) both).1) in
              let w = o.owned u was in (
                w.0,
                (
                  rw (same u other, get-set_other xs n (owner has xs u) new (not_owner n old u h (one u ∙ other) was))
                      w.1.0,
                  w.1.1,
                ),
              );
          listed = λ m u x there holds.
              elim (eqb_tells m n) [
                | inl y ↦ absurd (here_none x m u y.1 there holds (no_new u))
                | inr away ↦
                    let l = o.listed m u x (sym (get-set_other xs n m new away.1) ∙ there) holds in
                    let other : eqb u t ≡ false =
                    elim (eqb_tells u t) [
                      | inl y ↦ absurd (away.1 (sym l.1 ∙ ap (owner has xs) y.1 ∙ mine))
                      | inr r ↦ r.0
                    ] in
                    (is_listed-without u t q ∙ (rw (l.0, other) refl), same u (differs_sym u t other) ∙ l.1)
              ];
        }

    -- its ticket is told from the others by its owner
    tells : (t : ℕ) → owner has xs t ≡ n → OneTicket has t old → (ns : List ℕ)
        → ((u : ℕ) → has_number u ns ≡ true → is_listed u q ≡ true) → Tells (owner has xs) n t ns
    tells t mine one ns listed u k =
        elim (eqb_tells u t) [
          | inl y ↦ eq-eqb (owner has xs u) n (ap (owner has xs) y.1 ∙ mine) ∙ sym y.0
          | inr differs ↦
              elim (eqb_tells (owner has xs u) n) [
                | inl y ↦ absurd (not_owner n old u h (one u ∙ differs_sym u t differs.0) (listed u k) y.1)
                | inr r ↦ r.0 ∙ sym differs.0
              ]
        ]

    -- it is among the granted by its number exactly if its ticket is
    pub granted-renamed : (t : ℕ) → owner has xs t ≡ n → OneTicket has t old
        → has_number n (map (owner has xs) q.granted) ≡ has_number t q.granted
    granted-renamed t mine one =
        has_number-map (owner has xs) n t q.granted (tells t mine one q.granted (λ u k. or_left _ _ k))

    -- one list without it
    list-leaves : (t : ℕ) → owner has xs t ≡ n → OneTicket has t old → NoTicket has new → (ns : List ℕ)
        → ((u : ℕ) → has_number u ns ≡ true → is_listed u q ≡ true)
        → map (owner has (set xs n new)) (without_number t ns) ≡ without_number n (map (owner has xs) ns)
    list-leaves t mine one no_new ns listed =
        map_same (owner has (set xs n new)) (owner has xs) (without_number t ns)
        (λ u k. owner-set has xs n old new u h
        (one u ∙ differs_sym u t
        (not-true (eqb u t) (and_parts (has_number u ns) (not (eqb u t)) (sym (has_number-without u t ns) ∙ k)).1)
        ∙ sym (no_new u)))
        ∙ sym (without-map (owner has xs) n t ns (tells t mine one ns listed))

    pub renamed-leaves : (t : ℕ) → owner has xs t ≡ n → OneTicket has t old → NoTicket has new
        → renamed (owner has (set xs n new)) (without t q) ≡ without n (renamed (owner has xs) q)
    renamed-leaves t mine one no_new =
        let granted = list-leaves t mine one no_new q.granted (λ u k. or_left _ _ k) in
        let waiting = list-leaves t mine one no_new q.waiting (λ u k. or_right _ _ k) in
        rw (granted, waiting) refl

    -- ---- an entry joins the queue with a ticket that nobody has

    owner-joined : (t : ℕ) → is_listed t q ≡ false → OneTicket has t new → owner has (set xs n new) t ≡ n
    owner-joined t fresh one = owner-new has xs n old new t h (one t ∙ eq-eqb t t refl) (fresh_ticket t fresh)

    listed_differs : (t u : ℕ) → is_listed t q ≡ false → is_listed u q ≡ true → eqb t u ≡ false
    listed_differs t u fresh k =
        elim (eqb_tells t u) [
          | inl y ↦ let clash : is_listed u q ≡ false = subst (λ (v : ℕ). is_listed v q ≡ false) y.1 fresh in
              let differ : true ≡ false = sym k ∙ clash in cc
          | inr r ↦ r.0
        ]

    pub owned-joins : (t : ℕ) → is_listed t q ≡ false → NoTicket has old → OneTicket has t new
        → TicketsMatch has (joined t q) (set xs n new)
    owned-joins t fresh none one =
        let mine : owner has (set xs n new) t ≡ n = owner-joined t fresh one in
        let same : (u : ℕ) → eqb t u ≡ false → owner has (set xs n new) u ≡ owner has xs u =
        λ u differs. owner-set has xs n old new u h (none u ∙ sym (one u ∙ differs)) in
        record {
          owned = λ u k.
              elim (eqb_tells t u) [
                | inl y ↦ (
                  new,
                  (
                    ap (slice_get (set xs n new)) (ap (owner has (set xs n new)) (sym y.1) ∙ mine)
                        ∙ get-set_same xs n old new h,
                    one u ∙ y.0,
                  ),
                )
                | inr differs ↦
                    let was : is_listed u q ≡ true =
                    elim (or_cases (is_listed u q) (eqb t u) (sym (is_listed-joined u t q) ∙ k)) [
                      | inl y ↦ y
                      | inr y ↦ let differ : true ≡ false = sym y ∙ differs.0 in cc
                    ] in
                    let w = o.owned u was in (
                      w.0,
                      (
                        rw (
                          same u differs.0,
                          get-set_other xs n (owner has xs u) new (not_owner n old u h (none u) was),
                        ) w.1.0,
                        w.1.1,
                      ),
                    )
              ];
          listed = λ m u x there holds.
              elim (eqb_tells m n) [
                | inl y ↦
                    let holds_new : has u new ≡ true = ap (has u) (here_new x m y.1 there) ∙ holds in
                    let is : eqb t u ≡ true = sym (one u) ∙ holds_new in (
                      is_listed-joined u t q ∙ or_right (is_listed u q) (eqb t u) is,
                      ap (owner has (set xs n new)) (sym (eqb-true t u is)) ∙ mine ∙ sym y.1,
                    )
                | inr away ↦
                    let l = o.listed m u x (sym (get-set_other xs n m new away.1) ∙ there) holds in (
                      is_listed-joined u t q ∙ or_left (is_listed u q) (eqb t u) l.0,
                      same u (listed_differs t u fresh l.0) ∙ l.1,
                    )
              ];
        }

    pub renamed-joins : (t : ℕ) → is_listed t q ≡ false → NoTicket has old → OneTicket has t new
        → renamed (owner has (set xs n new)) (joined t q) ≡ joined n (renamed (owner has xs) q)
    renamed-joins t fresh none one =
        let same = renamed-same (owner has (set xs n new)) (owner has xs) q
        (λ u k. owner-set has xs n old new u h (none u ∙ sym (one u ∙ listed_differs t u fresh k))) in
        renamed-joined (owner has (set xs n new)) t q ∙ ap (joined (owner has (set xs n new) t)) same
        ∙ ap (λ m. joined m (renamed (owner has xs) q)) (owner-joined t fresh one)
