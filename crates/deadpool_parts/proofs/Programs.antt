-- How facts of computations are put together and taken apart.
use Rattle.deadpool_parts.proofs.Words.{subst, sym, Program, Return, Ask, ◌>>=◌, Gives, Always}

module _ {Q : Type 0} {Answer : Q → Type 0} where
  -- what one computation gives, and the next gives from there
  pub Gives-bind : {A B : Type 0} (may : (q : Q) → Answer q → Type 0) (p : Program Q Answer A)
      (f : A → Program Q Answer B) (a : A) (b : B)
      → Gives may p a → Gives may (f a) b → Gives may (p >>= f) b
  Gives-bind {A} {B} may (Return x) f a b here next = let P : A → Type 0 =
      λ y. Gives may (f y) b in subst P (sym here) next
  Gives-bind may (Ask q k) f a b here next = (here.0, (here.1.0, Gives-bind may (k here.0) f a b here.1.1 next))

  -- what always holds of the result holds of one that may be given
  pub Always-Gives : {A : Type 0} (P : A → Type 0) (may : (q : Q) → Answer q → Type 0) (p : Program Q Answer A) (a : A)
      → Always P p → Gives may p a → P a
  Always-Gives P may (Return x) a always given = subst P given always
  Always-Gives P may (Ask q k) a always given = Always-Gives P may (k given.0) a (always given.0) given.1.1

  -- what always holds after the first, whatever that gave
  pub Always-bind : {A B : Type 0} (P : B → Type 0) (p : Program Q Answer A) (f : A → Program Q Answer B)
      → ((a : A) → Always P (f a)) → Always P (p >>= f)
  Always-bind P (Return x) f next = next x
  Always-bind P (Ask q k) f next = λ a. Always-bind P (k a) f next

  -- what allowed answers give, more allowed answers give
  pub Gives-more : {A : Type 0} (may more : (q : Q) → Answer q → Type 0) → ((q : Q) (a : Answer q) → may q a → more q a)
      → (p : Program Q Answer A) (a : A) → Gives may p a → Gives more p a
  Gives-more may more implies (Return x) a given = given
  Gives-more may more implies (Ask q k) a given =
      (given.0, (implies q given.0 given.1.0, Gives-more may more implies (k given.0) a given.1.1))
