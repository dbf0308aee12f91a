-- What a caller has seen stays seen.
use Rattle.std.proofs.Common.{◌∙◌, ℕ, List, [], ◌++◌, ap, refl, sym, append_assoc, append-nil}
use mathlib.Core.List.{IsPrefix}
use Rattle.deadpool_chronicle.specs.History.{Knowing, SeesMore}

module _ {E : Type 0} where
  pub begins_itself : (log : List (ℕ × E)) → IsPrefix log log
  begins_itself log = ([], append-nil log)

  pub begins_on : (one two three : List (ℕ × E)) → IsPrefix one two → IsPrefix two three → IsPrefix one three
  begins_on one two three first then_ = (
    first.0 ++ then_.0,
    sym (append_assoc one first.0 then_.0) ∙ ap (λ (log : List (ℕ × E)). log ++ then_.0) first.1 ∙ then_.1,
  )

  pub sees_same : (c : Knowing E) → SeesMore c c
  sees_same c = (refl, begins_itself c.seen)

  pub sees_on : (a b c : Knowing E) → SeesMore a b → SeesMore b c → SeesMore a c
  sees_on a b c one two = (
    rw (one.0) at two.0,
    begins_on a.seen b.seen c.seen one.1 two.1,
  )
