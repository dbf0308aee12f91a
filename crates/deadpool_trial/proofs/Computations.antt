-- What always holds of a computation, whatever is answered.
use Rattle.deadpool_trial.proofs.Basics.{Return, ◌>>=◌, Program, Always, Ask}
use Rattle.deadpool_trial.proofs.Words.{given}

module _ {Q : Type 0} {Answer : Q → Type 0} {A : Type 0} where
  -- what follows from a fact that always holds always holds
  pub Always-more : (P more : A → Type 0) → ((a : A) → P a → more a) → (p : Program Q Answer A) → Always P p
      → Always more p
  Always-more P more implies (Return x) always = implies x always
  Always-more P more implies (Ask q k) always = λ a. Always-more P more implies (k a) (always a)

  -- what always holds after the first, if so much always holds of what that gave
  pub Always-then : {B : Type 0} (given : A → Type 0) (P : B → Type 0) (p : Program Q Answer A)
      (f : A → Program Q Answer B)
      → Always given p → ((a : A) → given a → Always P (f a)) → Always P (p >>= f)
  Always-then given P (Return x) f always next = next x always
  Always-then given P (Ask q k) f always next = λ a. Always-then given P (k a) f (always a) next
