-- Computations that ask the outside, and go on at each answer. A definition of what code does is such a computation
-- when the code calls somebody else's.
use Rattle.std.specs.Prelude.{◌≡◌}

-- Q is what may be asked, Answer q is what an answer to q is, and A is what the computation gives in the end.
pub data Program (Q : Type 0) (Answer : Q → Type 0) (A : Type 0) : Type 0 where
  Return : A → Program Q Answer A
  Ask : (q : Q) → (Answer q → Program Q Answer A) → Program Q Answer A

module _ {Q : Type 0} {Answer : Q → Type 0} where
  -- asks one question and gives its answer
  abbrev pub ask : (q : Q) → Program Q Answer (Answer q)
  ask q = Ask q (λ a. Return a)

  infixl 10 ◌>>=◌
  -- one computation after another
  abbrev pub ◌>>=◌ : {A B : Type 0} → Program Q Answer A → (A → Program Q Answer B) → Program Q Answer B
  (Return a) >>= f = f a
  (Ask q k) >>= f = Ask q (λ a. k a >>= f)

  -- with answers that `may` allows, the computation may give this result
  abbrev pub Gives : {A : Type 0} → ((q : Q) → Answer q → Type 0) → Program Q Answer A → A → Type 0
  Gives may (Return a) result = a ≡ result
  Gives may (Ask q k) result = (a : Answer q) × (may q a × Gives may (k a) result)

  -- whatever is answered, P holds of the result
  abbrev pub Always : {A : Type 0} → (A → Type 0) → Program Q Answer A → Type 0
  Always P (Return a) = P a
  Always P (Ask q k) = (a : Answer q) → Always P (k a)

  -- the result when an outside with a state of its own answers
  abbrev pub respond : {A W : Type 0} → (W → (q : Q) → Answer q × W) → Program Q Answer A → W → A × W
  respond outside (Return a) w = (a, w)
  respond outside (Ask q k) w = let (a, v) = outside w q in respond outside (k a) v
