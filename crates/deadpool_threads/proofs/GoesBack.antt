-- What a get gives that was begun at a pool goes back to that pool.
use Rattle.std.proofs.Common.{◌≡◌, inl, inr, sym, Result, Ok, Err, IfOk}
use Rattle.deadpool_lock.specs.Asked.{Asked, BorrowingAsks, Gives}
use Rattle.deadpool_lock.specs.declared.registration.Registration.{Registration}
use Rattle.deadpool_shared.specs.Gets.{GivesReady}

module _ {S K Q O : Type 0} (gives : Q → K → O → Type 0) (refuses : Q → O → Type 0) (P : O → Type 0) where
  -- what a future gives that borrows a handle
  pub gives_as_asked :
      (shared : S) (kept : K) (asked : Q) (future : Asked S K Q) (x : O)
      → BorrowingAsks shared kept asked future
      → (gives asked kept x → P x) → (refuses asked x → P x)
      → Gives gives refuses future.stage future.request x → P x
  gives_as_asked shared kept asked future x (inl asks) by_gives by_refuses given =
      by_gives (rw (asks.1, asks.2) at given)
  gives_as_asked shared kept asked future x (inr refused) by_gives by_refuses given =
      by_refuses (rw (refused.1, refused.2) at given)

  -- the same of one whose registration was exchanged since it began
  pub gives_as_begun :
      (shared : S) (kept : K) (asked : Q) (begun future : Asked S K Q) (registration : Registration) (x : O)
      → BorrowingAsks shared kept asked begun → future ≡ record begun { registration = registration }
      → (gives asked kept x → P x) → (refuses asked x → P x)
      → Gives gives refuses future.stage future.request x → P x
  gives_as_begun shared kept asked begun future registration x asks same by_gives by_refuses given =
      gives_as_asked shared kept asked begun x asks by_gives by_refuses (rw (same) at given)

module _ {O W E H : Type 0} (comes_from : O → W → Type 0) (is_ready : O → Type 0) (home_of : O → H) (pool : H) where
  pub goes_back : (ended : Result W E) → GivesReady comes_from (λ o. is_ready o × (pool ≡ home_of o)) ended
      → GivesReady comes_from (λ o. is_ready o × (home_of o ≡ pool)) ended
  goes_back (Err cause) given = tt
  goes_back (Ok w) (o, ((ready, at), comes)) = (o, ((ready, sym at), comes))

  -- one that was refused gives nothing
  pub refused_gives_nothing : (ended : Result W E) (cause : E) → ended ≡ Err cause
      → GivesReady comes_from (λ o. is_ready o × (home_of o ≡ pool)) ended
  refused_gives_nothing ended cause is = rw (is) tt

pub nothing_goes_back : {O E : Type 0} (P : O → Type 0) (ended : Result O E) (cause : E) → ended ≡ Err cause
    → IfOk ended P
nothing_goes_back P ended cause is = rw (is) tt
