-- Lists of numbers: who is in them, and what is left when one is taken out.
use Rattle.std.proofs.Common.{◌≡◌, ◌≢◌, ℕ, ◌+◌, ◌≤◌, List, [], ◌∷◌, ◌++◌, Bool, true, false, cond, not, ◌||◌, ◌&&◌, eqb}
use Rattle.std.proofs.Common.{length, map, take, drop, refl, sym, ap, ◌∙◌, arith, inl, inr}
use Rattle.std.specs.Prelude.{◌==◌}
use Rattle.std.proofs.Math.Bool.{or_assoc, or-false, and-or_distrib_right}
use Rattle.std.proofs.lemmas.Bool.{eq-eqb, eqb-true, cases_Bool, or_parts, or_right, cond_both}
use Rattle.std.proofs.lemmas.Bool.Decides.{nat_tests, eqb_tells}
use Rattle.std.proofs.lemmas.List.{take-append-drop}
use Rattle.std.proofs.lemmas.List.Elements.{filter-append}
use Rattle.std.proofs.lemmas.List.Folds.{list_any-append}
use Rattle.deadpool_gate.specs.Numbers.{has_number, without_number}
use Rattle.deadpool_gate.specs.Orders.{IsOnce}

-- a test of two numbers does not depend on their order
pub differs_sym : (a b : ℕ) → (a == b) ≡ false → (b == a) ≡ false
differs_sym a b h = grind (arith, nat_tests)

-- a number of two lists is in one of them
pub has_number-append : (n : ℕ) (xs ys : List ℕ) → has_number n (xs ++ ys) ≡ (has_number n xs || has_number n ys)
has_number-append n xs ys = list_any-append (λ m. m == n) xs ys

-- from two lists it is taken out of each
pub without_number-append : (n : ℕ) (xs ys : List ℕ)
    → without_number n (xs ++ ys) ≡ without_number n xs ++ without_number n ys
without_number-append n xs ys = filter-append (λ m. not (m == n)) xs ys

-- the first of a list is in it, and so is what the rest has
pub has_number-head : (x : ℕ) (xs : List ℕ) → has_number x (x ∷ xs) ≡ true
has_number-head x xs = ap (λ b. b || has_number x xs) (eq-eqb x x refl)

pub has_number-tail : (u x : ℕ) (xs : List ℕ) → has_number u xs ≡ true → has_number u (x ∷ xs) ≡ true
has_number-tail u x xs h = or_right (eqb x u) (has_number u xs) h

-- a list with one more number under a test
has_number-cond : (c : Bool) (n x : ℕ) (xs : List ℕ)
    → has_number n (cond c (x ∷ xs) xs) ≡ cond c ((x == n) || has_number n xs) (has_number n xs)
has_number-cond true n x xs = refl
has_number-cond false n x xs = refl

without-step : (n m x : ℕ) (a b : Bool) → a ≡ (b && not (n == m))
    → cond (not (x == m)) ((x == n) || a) a ≡ (((x == n) || b) && not (n == m))
without-step n m x a b h = grind (arith, nat_tests)

-- who is left when m is taken out
pub has_number-without : (n m : ℕ) (xs : List ℕ)
    → has_number n (without_number m xs) ≡ (has_number n xs && not (n == m))
has_number-without n m [] = refl
has_number-without n m (x ∷ xs) =
    has_number-cond (not (x == m)) n x (without_number m xs)
    ∙ without-step n m x (has_number n (without_number m xs)) (has_number n xs) (has_number-without n m xs)

-- if it was not there, nothing changes
pub without_number-same : (n : ℕ) (xs : List ℕ) → has_number n xs ≡ false → without_number n xs ≡ xs
without_number-same n [] h = refl
without_number-same n (x ∷ xs) h =
    let parts = or_parts (x == n) (has_number n xs) h in
    ap (λ b. cond (not b) (x ∷ without_number n xs) (without_number n xs)) parts.0
    ∙ ap (λ ys. x ∷ ys) (without_number-same n xs parts.1)

-- no more are left than there were
pub without_number-shorter : (n : ℕ) (xs : List ℕ) → length (without_number n xs) ≤ length xs
without_number-shorter n [] = omega arith
without_number-shorter n (x ∷ xs) =
    let rest = without_number-shorter n xs in
    cond_both (not (x == n)) _ _ (λ ys. length ys ≤ length (x ∷ xs)) (λ y. omega (arith, rest))
    (λ y. omega (arith, rest))

-- and fewer if it was there
pub without_number-fewer : (n : ℕ) (ns : List ℕ) → has_number n ns ≡ true → length (without_number n ns) + 1 ≤ length ns
without_number-fewer n [] has = cc
without_number-fewer n (m ∷ ns) has =
    elim (cases_Bool (m == n)) [
      | inl here ↦ rw here (omega (arith, without_number-shorter n ns))
      | inr other ↦ rw other (omega (arith, without_number-fewer n ns (rw other at has)))
    ]

-- but for one, if no number stands twice
pub without_number-one : (n : ℕ) (ns : List ℕ) → IsOnce ns → length ns ≤ length (without_number n ns) + 1
without_number-one n [] once = omega arith
without_number-one n (m ∷ ns) once =
    elim (cases_Bool (m == n)) [
      | inl here ↦
          let gone : has_number n ns ≡ false = rw (eqb-true m n here) at once.0 in
          rw here (let same = ap length (without_number-same n ns gone) in omega (arith, same))
      | inr other ↦ rw other (let rest = without_number-one n ns once.1 in omega (arith, rest))
    ]

-- one that goes from the front of one list to the end of another is in one of the two as before
pub has_number-moved : (u k : ℕ) (xs ys : List ℕ)
    → (has_number u (xs ++ take k ys) || has_number u (drop k ys)) ≡ (has_number u xs || has_number u ys)
has_number-moved u k xs ys =
    ap (λ b. b || has_number u (drop k ys)) (has_number-append u xs (take k ys))
    ∙ or_assoc (has_number u xs) (has_number u (take k ys)) (has_number u (drop k ys))
    ∙ ap (λ b. has_number u xs || b)
    (sym (has_number-append u (take k ys) (drop k ys)) ∙ ap (has_number u) (take-append-drop k ys))

-- one more at the end of the second list
pub has_number-joined : (u t : ℕ) (xs ys : List ℕ)
    → (has_number u xs || has_number u (ys ++ t ∷ [])) ≡ ((has_number u xs || has_number u ys) || eqb t u)
has_number-joined u t xs ys =
    ap (λ b. has_number u xs || b)
    (has_number-append u ys (t ∷ []) ∙ ap (λ b. has_number u ys || b) (or-false (eqb t u)))
    ∙ sym (or_assoc (has_number u xs) (has_number u ys) (eqb t u))

-- and one taken out of both
pub has_number-parted : (u t : ℕ) (xs ys : List ℕ)
    → (has_number u (without_number t xs) || has_number u (without_number t ys))
    ≡ ((has_number u xs || has_number u ys) && not (eqb u t))
has_number-parted u t xs ys =
    ap (λ b. b || has_number u (without_number t ys)) (has_number-without u t xs)
    ∙ ap (λ b. (has_number u xs && not (eqb u t)) || b) (has_number-without u t ys)
    ∙ sym (and-or_distrib_right (has_number u xs) (has_number u ys) (not (eqb u t)))

-- two maps that agree on the list
pub map_same : (f g : ℕ → ℕ) (xs : List ℕ) → ((u : ℕ) → has_number u xs ≡ true → f u ≡ g u) → map f xs ≡ map g xs
map_same f g [] h = refl
map_same f g (x ∷ xs) h =
    let first : f x ≡ g x = h x (has_number-head x xs) in
    let rest : map f xs ≡ map g xs = map_same f g xs (λ u k. h u (has_number-tail u x xs k)) in cc

-- f tells t from the others in the list: what it makes n is t alone
abbrev pub Tells : (ℕ → ℕ) → ℕ → ℕ → List ℕ → Type 0
Tells f n t xs = (u : ℕ) → has_number u xs ≡ true → eqb (f u) n ≡ eqb u t

-- whether the mapped list has n
pub has_number-map : (f : ℕ → ℕ) (n t : ℕ) (xs : List ℕ) → Tells f n t xs → has_number n (map f xs) ≡ has_number t xs
has_number-map f n t [] h = refl
has_number-map f n t (x ∷ xs) h =
    rw (h x (has_number-head x xs), has_number-map f n t xs (λ u k. h u (has_number-tail u x xs k))) refl

map-cond : (c : Bool) (f : ℕ → ℕ) (x : ℕ) (xs : List ℕ)
    → map f (cond c (x ∷ xs) xs) ≡ cond c (f x ∷ map f xs) (map f xs)
map-cond true f x xs = refl
map-cond false f x xs = refl

-- the mapped list without n
pub without-map : (f : ℕ → ℕ) (n t : ℕ) (xs : List ℕ) → Tells f n t xs
    → without_number n (map f xs) ≡ map f (without_number t xs)
without-map f n t [] h = refl
without-map f n t (x ∷ xs) h =
    let first : eqb (f x) n ≡ eqb x t = h x (has_number-head x xs) in
    let rest : without_number n (map f xs) ≡ map f (without_number t xs) =
    without-map f n t xs (λ u k. h u (has_number-tail u x xs k)) in
    ap (λ b. cond (not b) (f x ∷ without_number n (map f xs)) (without_number n (map f xs))) first
    ∙ ap (λ ys. cond (not (eqb x t)) (f x ∷ ys) ys) rest
    ∙ sym (map-cond (not (eqb x t)) f x (without_number t xs))

-- nothing in the list is made n
pub absent-map : (f : ℕ → ℕ) (n : ℕ) (xs : List ℕ) → ((u : ℕ) → has_number u xs ≡ true → f u ≢ n)
    → has_number n (map f xs) ≡ false
absent-map f n [] h = refl
absent-map f n (x ∷ xs) h =
    elim (eqb_tells (f x) n) [
      | inl same ↦ absurd (h x (has_number-head x xs) same.1)
      | inr other ↦ rw other.0 (absent-map f n xs (λ u k. h u (has_number-tail u x xs k)))
    ]
