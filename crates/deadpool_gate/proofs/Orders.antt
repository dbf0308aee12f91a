-- What changes of a queue do to its order.
use Rattle.std.proofs.Common.{◌≡◌, ℕ, List, [], ◌∷◌, ◌++◌, true, false, not, ◌||◌, refl, sym, ap, ◌∙◌, arith, inl, inr}
use Rattle.std.proofs.Common.{append-nil}
use Rattle.std.specs.Prelude.{◌==◌}
use Rattle.std.specs.List.{filter}
use Rattle.std.proofs.lemmas.Bool.{cases_Bool, eqb-true, eq-eqb, or_parts, or_right}
use Rattle.deadpool_gate.specs.Numbers.{has_number, without_number}
use Rattle.deadpool_gate.specs.Orders.{IsOnce, KeepsOrder}
use Rattle.deadpool_gate.proofs.Numbers.{differs_sym, has_number-append, has_number-without}

-- if all pass the test nothing goes
pub filter-all : (xs : List ℕ) → filter (λ n. true) xs ≡ xs
filter-all [] = refl
filter-all (x ∷ xs) = ap (λ ys. x ∷ ys) (filter-all xs)

-- what is left when one is taken out stands there once
pub IsOnce-without : (n : ℕ) (xs : List ℕ) → IsOnce xs → IsOnce (without_number n xs)
IsOnce-without n [] once = tt
IsOnce-without n (x ∷ xs) once =
    elim (cases_Bool (x == n)) [
      | inl here ↦ rw here (IsOnce-without n xs once.1)
      | inr other ↦ rw other (has_number-without x n xs ∙ (rw once.0 refl), IsOnce-without n xs once.1)
    ]

-- a new number at the back
pub IsOnce-push : (xs : List ℕ) (n : ℕ) → IsOnce xs → has_number n xs ≡ false → IsOnce (xs ++ n ∷ [])
IsOnce-push [] n once h = (refl, tt)
IsOnce-push (x ∷ xs) n once h =
    let parts = or_parts (x == n) (has_number n xs) h in
    let other : (n == x) ≡ false = differs_sym x n parts.0 in
    (has_number-append x xs (n ∷ []) ∙ (rw (once.0, other) refl), IsOnce-push xs n once.1 parts.1)

-- two lists with no number in common
pub IsOnce-append : (xs ys : List ℕ) → IsOnce xs → IsOnce ys
    → ((n : ℕ) → has_number n xs ≡ true → has_number n ys ≡ false) → IsOnce (xs ++ ys)
IsOnce-append [] ys left right apart = right
IsOnce-append (x ∷ xs) ys left right apart =
    let here : has_number x ys ≡ false = apart x (ap (λ b. b || has_number x xs) (eq-eqb x x refl)) in (
      has_number-append x xs ys ∙ (rw (left.0, here) refl),
      IsOnce-append xs ys left.1 right (λ n h. apart n (or_right (x == n) (has_number n xs) h)),
    )

-- the front of such a list
pub IsOnce-front : (xs ys : List ℕ) → IsOnce (xs ++ ys) → IsOnce xs
IsOnce-front [] ys once = tt
IsOnce-front (x ∷ xs) ys once = (
  (or_parts (has_number x xs) (has_number x ys) (sym (has_number-append x xs ys) ∙ once.0)).0,
  IsOnce-front xs ys once.1,
)

-- nothing changes, one leaves, or one that was not there joins at the end
pub order_same : (xs : List ℕ) → KeepsOrder xs xs
order_same xs = record {
  stays = λ n. true;
  joins = [];
  is = sym (append-nil (filter (λ n. true) xs) ∙ filter-all xs);
  few = omega arith;
  fresh = λ n h. cc;
}

pub order_without : (n : ℕ) (xs : List ℕ) → KeepsOrder xs (without_number n xs)
order_without n xs =
    record {
      stays = λ m. not (m == n);
      joins = [];
      is = sym (append-nil (without_number n xs));
      few = omega arith;
      fresh = λ m h. cc;
    }

pub order_joined : (n : ℕ) (xs : List ℕ) → has_number n xs ≡ false → KeepsOrder xs (xs ++ n ∷ [])
order_joined n xs fresh = record {
  stays = λ m. true;
  joins = n ∷ [];
  is = ap (λ ys. ys ++ n ∷ []) (sym (filter-all xs));
  few = omega arith;
  fresh = λ m h.
      elim (cases_Bool (n == m)) [
        | inl same ↦ rw (eqb-true n m same) at fresh
        | inr other ↦ absurd (let none : has_number m (n ∷ []) ≡ false = rw other refl in
            let differ : true ≡ false = sym h ∙ none in cc)
      ];
}
