-- Who is in a queue as one leaves, joins, or some are granted what they ask for, and what keeps it served.
use Rattle.std.proofs.Common.{◌≡◌, ℕ, ◌+◌, ◌-◌, ◌<◌, ◌≤◌, [], ◌∷◌, ◌++◌, Bool, true, false, cond, length, take, drop}
use Rattle.std.proofs.Common.{min, sym, ap, ◌∙◌, append_assoc, arith, inl, inr, length-append, length-take, length-drop}
use Rattle.std.proofs.Common.{append-nil}
use Rattle.std.proofs.Common.{take-append-drop, refl, zero, suc}
use Rattle.std.proofs.{Math.ListN.drop_of_length-le, lemmas.Bool.cases_lt, lemmas.Bool.cond_both}
use Rattle.deadpool_gate.specs.Numbers.{without_number}
use Rattle.deadpool_gate.specs.Orders.{IsOnce}
use Rattle.deadpool_gate.specs.Queue.{Queue, members, is_listed, joined, without, served}
use Rattle.deadpool_gate.specs.Served.{IsServed, NobodyWaits}
use Rattle.deadpool_gate.proofs.Numbers.{without_number-append, has_number-append}
use Rattle.deadpool_gate.proofs.Orders.{IsOnce-without, IsOnce-push}

-- the members, as one leaves, joins, or some are granted what they ask for
pub members-without : (n : ℕ) (q : Queue) → members (without n q) ≡ without_number n (members q)
members-without n q = sym (without_number-append n q.granted q.waiting)

pub members-joined : (n : ℕ) (q : Queue) → members (joined n q) ≡ members q ++ n ∷ []
members-joined n q = sym (append_assoc q.granted q.waiting (n ∷ []))

pub members-served : (is_open : Bool) (free : ℕ) (q : Queue) → members (served is_open free q) ≡ members q
members-served is_open free q =
    let k = cond is_open (min (length q.waiting) free) 0 in
    append_assoc q.granted (take k q.waiting) (drop k q.waiting)
    ∙ ap (λ ns. q.granted ++ ns) (take-append-drop k q.waiting)

-- no number stands twice in what one has left
pub once-without : (n : ℕ) (q : Queue) → IsOnce (members q) → IsOnce (members (without n q))
once-without n q once = rw (members-without n q) (IsOnce-without n (members q) once)

-- where nobody waits for what is free, the settling changes nothing
pub served-settled : (is_open : Bool) (free : ℕ) (q : Queue) → NobodyWaits is_open free q → q ≡ served is_open free q
served-settled false free q quiet = rw (append-nil q.granted) refl
served-settled true zero q quiet = let none : min (length q.waiting) 0 ≡ 0 = omega arith in
    rw (none, append-nil q.granted) refl
served-settled true (suc n) q quiet =
    let none : min 0 (suc n) ≡ 0 = omega arith in
    rw (quiet refl (omega arith), none, append-nil q.granted) refl

-- of what is there in all some is granted: nobody waits for what is left
pub nobody_waits-served : (is_open : Bool) (total : ℕ) (q after : Queue)
    → after ≡ served is_open (total - length q.granted) q → NobodyWaits is_open (total - length after.granted) after
nobody_waits-served false total q after is = λ never some. cc
nobody_waits-served true total q after is =
    let free = total - length q.granted in
    let k = min (length q.waiting) free in
    rw is (λ opens some. elim (cases_lt free (length q.waiting)) [
      | inl few ↦
          let all = length-append q.granted (take k q.waiting) in
          let given = length-take k q.waiting in
          absurd (omega (arith, some, all, given, few))
      | inr enough ↦ let whole : length q.waiting ≤ k = omega (arith, enough) in drop_of_length-le q.waiting whole
    ])

-- and no more is granted than there is
pub served_within : (is_open : Bool) (total : ℕ) (q : Queue) → length q.granted ≤ total
    → length (served is_open (total - length q.granted) q).granted ≤ total
served_within is_open total q within =
    let k = cond is_open (min (length q.waiting) (total - length q.granted)) 0 in
    let all : length (q.granted ++ take k q.waiting) ≡ length q.granted + length (take k q.waiting) =
    length-append q.granted (take k q.waiting) in
    let given : length (take k q.waiting) ≡ min k (length q.waiting) = length-take k q.waiting in
    let few : k ≤ total - length q.granted =
    cond_both is_open (min (length q.waiting) (total - length q.granted)) 0 (λ n. n ≤ total - length q.granted)
    (λ y. omega arith) (λ y. omega arith) in
    omega (arith, all, given, few, within)

-- no more wait then
pub served_fewer : (is_open : Bool) (free : ℕ) (q : Queue)
    → length (served is_open free q).waiting ≤ length q.waiting
served_fewer is_open free q =
    omega (arith, length-drop (cond is_open (min (length q.waiting) free) 0) q.waiting)

-- who serves all that there is leaves a queue that is served
pub served_served : (is_open : Bool) (total : ℕ) (q after : Queue)
    → after ≡ served is_open (total - length q.granted) q → IsOnce (members q)
    → IsServed is_open (total - length after.granted) after
served_served is_open total q after is once =
    record {
      nobody_waits = nobody_waits-served is_open total q after is;
      once = rw (is, members-served is_open (total - length q.granted) q) once;
    }

module _ (is_open : Bool) (free : ℕ) (q : Queue) (s : IsServed is_open free q) where
  -- it stays served if no more is free than was
  pub still_served : (after : ℕ) → (is_open ≡ true → 0 < after → 0 < free) → IsServed is_open after q
  still_served after no_more =
      record { nobody_waits = λ is some. s.nobody_waits is (no_more is some); once = s.once }

  -- so it does if one leaves it then
  pub left_served : (n after : ℕ) → (is_open ≡ true → 0 < after → 0 < free) → IsServed is_open after (without n q)
  left_served n after no_more =
      record {
        nobody_waits = λ is some. ap (without_number n) (s.nobody_waits is (no_more is some));
        once = once-without n q s.once;
      }

  -- and if one joins it, where none is free
  pub joined_served : (n : ℕ) → free ≡ 0 → is_listed n q ≡ false → IsServed is_open free (joined n q)
  joined_served n none fresh =
      record {
        nobody_waits = λ is some. absurd (omega (arith, some, none));
        once = rw (members-joined n q)
            (IsOnce-push (members q) n s.once (has_number-append n q.granted q.waiting ∙ fresh));
      }
