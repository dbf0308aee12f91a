-- No token has a key of a thread, so that all may be sent.
use Rattle.std.proofs.Common.{ℕ, suc, List, [], ◌∷◌}
use base.Fraction.{full_share}
use base.Stored.{Gv, Coded}
use base.Growing.{latest, at_least}
use base.Shift.{Keyless}
use types.Keyed.{entry_keyless, entries_keyless}
use Rattle.deadpool_chronicle.specs.Names.{Names}
use Rattle.deadpool_chronicle.specs.Owned.{paper, nothing_written, roster, blank_owns, page_code, author_owns}
use Rattle.deadpool_chronicle.specs.Owned.{beginning_owns, page_owns}

roster_keyless : {X : Type 0} (code : X → Gv) (pages k : ℕ) (xs : List X) → Keyless (roster code pages k xs)
roster_keyless code pages k [] = entries_keyless paper pages k (λ _. (full_share, nothing_written))
roster_keyless code pages k (x ∷ xs) = (entry_keyless paper pages k _, roster_keyless code pages (suc k) xs)

pub blank_keyless : (n : Names) → Keyless (blank_owns n)
unfolding latest
blank_keyless n = (tt, entries_keyless paper n.pages 0 (λ _. (full_share, nothing_written)))

module _ {E : Type 0} (of : Coded E) (n : Names) where
  pub author_keyless : (log : List (ℕ × E)) → Keyless (author_owns of n log)
  unfolding latest
  author_keyless log = λ pages. ((λ _. tt), (tt, roster_keyless (page_code of) n.pages 0 pages))

  pub beginning_keyless : (log : List (ℕ × E)) → Keyless (beginning_owns of n log)
  unfolding at_least
  beginning_keyless log = tt

  pub page_keyless : (number : ℕ) (mine : List E) (admitted : ℕ) → Keyless (page_owns of n number mine admitted)
  page_keyless number mine admitted = entry_keyless paper n.pages number _
