-- A queue for what there is so much of in all, and others hold so much of, as a step changes it: what comes of that
-- once all that is free is granted.
use Rattle.std.proofs.Common.{◌≡◌, ℕ, ◌+◌, ◌-◌, ◌<◌, ◌≤◌, [], Bool, true, ◌||◌, cond, min, length, take}
use Rattle.std.proofs.Common.{refl, ◌∙◌, arith, inl, inr, ◌⊎◌, Option, length-append, length-take}
use Rattle.std.proofs.{Math.ListN.drop_of_length-le, lemmas.Bool.cases_lt}
use Rattle.std.proofs.lemmas.Bool.{cases_Bool, or_left, or_right}
use Rattle.deadpool_gate.specs.Numbers.{has_number}
use Rattle.deadpool_gate.specs.Orders.{KeepsOrder}
use Rattle.deadpool_gate.specs.Queue.{Queue, members, served}
use Rattle.deadpool_gate.specs.Served.{IsServed, NobodyWaits}
use Rattle.deadpool_gate.proofs.Numbers.{has_number-append}
use Rattle.deadpool_gate.proofs.Queues.{members-served}
use Rattle.deadpool_turns.specs.Ahead.{ahead}
use Rattle.deadpool_turns.proofs.Changes.{Changes, IsOther}
use Rattle.deadpool_turns.proofs.Ahead.{ahead-drop, ahead-within, has-dropped}

-- how many have to let go until it is granted what it waits for
abbrev pub far : ℕ → ℕ → ℕ → Queue → ℕ
far t total held q = (held + length q.granted - total) + ahead t q.waiting + 1

-- A step by which one may leave the queue. What is free is granted at its end. If it is calm, each other that waits is
-- nearer by so many.
pub record Passes (Calm : Type 0) (count : ℕ) (left : Option ℕ) (total held : ℕ) (q : Queue) (is_open : Bool)
    (total' held' : ℕ) (q' : Queue) :
    Type 0 where
  pub through : Queue
  pub changes : Changes Calm count left (held + total') (held' + total) q through
  pub free : ℕ
  pub is_free : free ≡ total' - (held' + length through.granted)
  pub lands : (q' ≡ served is_open free through) ⊎ ((q' ≡ through) × NobodyWaits is_open free through)

-- while one waits in an open pool nothing is free
pub none_free : (is_open : Bool) (free t : ℕ) (q : Queue) → is_open ≡ true → NobodyWaits is_open free q
    → has_number t q.waiting ≡ true → free ≤ 0
none_free is_open free t q opens quiet waits =
    elim (cases_lt 0 free) [
      | inl some ↦
          let none : q.waiting ≡ [] = quiet opens some in
          absurd (let no : has_number t [] ≡ true = rw none at waits in cc)
      | inr none ↦ none
    ]

-- as much as is free is granted: nobody waits for what is left
quiet_then : (is_open : Bool) (total held : ℕ) (q : Queue) → is_open ≡ true
    → 0 < total - (held + length (served is_open (total - (held + length q.granted)) q).granted)
    → (served is_open (total - (held + length q.granted)) q).waiting ≡ []
quiet_then is_open total held q opens some =
    let free = total - (held + length q.granted) in
    let k = cond is_open (min (length q.waiting) free) 0 in
    let is : k ≡ min (length q.waiting) free = rw opens refl in
    let given = length-append q.granted (take k q.waiting) in
    let taken = length-take k q.waiting in
    elim (cases_lt free (length q.waiting)) [
      | inl few ↦ absurd (omega (arith, is, given, taken, few, some))
      | inr enough ↦ let whole : length q.waiting ≤ k = omega (arith, enough, is) in drop_of_length-le q.waiting whole
    ]

-- Of one that waits, as those are granted that are first: it is one of them, or is as near as they leave it.
far_then : (t total held : ℕ) (is_open : Bool) (q : Queue) → is_open ≡ true → has_number t q.waiting ≡ true
    → ((has_number t (served is_open (total - (held + length q.granted)) q).waiting ≡ true)
    × (far t total held (served is_open (total - (held + length q.granted)) q) + total
    ≡ held + length q.granted + ahead t q.waiting + 1))
    ⊎ (has_number t (served is_open (total - (held + length q.granted)) q).granted ≡ true)
far_then t total held is_open q opens waits =
    let free = total - (held + length q.granted) in
    let k = cond is_open (min (length q.waiting) free) 0 in
    elim (cases_Bool (has_number t (take k q.waiting))) [
      | inl now ↦
          inr (has_number-append t q.granted (take k q.waiting)
          ∙ or_right (has_number t q.granted) (has_number t (take k q.waiting)) now)
      | inr none ↦
          let is : k ≡ min (length q.waiting) free = rw opens refl in
          let given = length-append q.granted (take k q.waiting) in
          let taken = length-take k q.waiting in
          let within = ahead-within t q.waiting waits in
          let dropped = ahead-drop t k q.waiting waits none in
          inl (has-dropped t k q.waiting waits none, omega (arith, is, given, taken, within, dropped))
    ]

module _ (Calm : Type 0) (count : ℕ) (left : Option ℕ) (total held : ℕ) (q : Queue) (is_open : Bool)
    (total' held' : ℕ) (q' : Queue) (p : Passes Calm count left total held q is_open total' held' q') where
  -- it leaves nobody waiting for what is free
  pub passes_served : (after : ℕ) → after ≡ total' - (held' + length q'.granted) → IsServed is_open after q'
  passes_served after left_free =
      let free = p.is_free in
      elim p.lands [
        | inl is ↦
            let so : q' ≡ served is_open (total' - (held' + length p.through.granted)) p.through = rw free at is in
            rw left_free (rw so (record {
              nobody_waits = λ opens some. quiet_then is_open total' held' p.through opens some;
              once = rw (members-served is_open (total' - (held' + length p.through.granted)) p.through) p.changes.once;
            }))
        | inr is ↦
            rw left_free (rw is.0 (record {
              nobody_waits = λ opens some. is.1 opens (omega (arith, some, free));
              once = p.changes.once;
            }))
      ]

  -- the queue keeps its order
  pub passes_order : KeepsOrder (members q) (members q')
  passes_order = elim p.lands [
    | inl is ↦ rw (is, members-served is_open p.free p.through) p.changes.order
    | inr is ↦ rw is.0 p.changes.order
  ]

  -- who was granted what it asked for has it still
  pub passes_granted : (t : ℕ) → IsOther left t → has_number t q.granted ≡ true → has_number t q'.granted ≡ true
  passes_granted t other has =
      let still = p.changes.granted t other has in
      elim p.lands [
        | inl is ↦
            let more = take (cond is_open (min (length p.through.waiting) p.free) 0) p.through.waiting in
            rw is (has_number-append t p.through.granted more
            ∙ or_left (has_number t p.through.granted) (has_number t more) still)
        | inr is ↦ rw is.0 still
      ]

  -- who is in the queue stays there
  pub passes_queued : (t : ℕ) → IsOther left t → has_number t (members q) ≡ true → has_number t (members q') ≡ true
  passes_queued t other has =
      let both : (has_number t q.granted || has_number t q.waiting) ≡ true =
      rw (has_number-append t q.granted q.waiting) at has in
      let there : has_number t (members p.through) ≡ true =
      has_number-append t p.through.granted p.through.waiting ∙ elim (cases_Bool (has_number t q.granted)) [
        | inl here ↦ or_left (has_number t p.through.granted) _ (p.changes.granted t other here)
        | inr away ↦ or_right (has_number t p.through.granted) _ (p.changes.stays t other (rw away at both))
      ] in
      elim p.lands [
        | inl is ↦ rw (is, members-served is_open p.free p.through) there
        | inr is ↦ rw is.0 there
      ]

  -- and who waits is nearer, or was granted it
  pub passes_nears : Calm → (was_open : Bool) (was_free t : ℕ) → was_free ≡ total - (held + length q.granted)
      → NobodyWaits was_open was_free q → was_open ≡ true → is_open ≡ true → IsOther left t
      → has_number t q.waiting ≡ true
      → ((has_number t q'.waiting ≡ true) × (far t total' held' q' + count ≤ far t total held q))
      ⊎ (has_number t q'.granted ≡ true)
  passes_nears calm was_open was_free t was quiet opens opens' other waits =
      let full = none_free was_open was_free t q opens quiet waits in
      let there = p.changes.stays t other waits in
      let nearer = p.changes.nears calm t other waits in
      let free = p.is_free in
      elim p.lands [
        | inl is ↦
            let so : q' ≡ served is_open (total' - (held' + length p.through.granted)) p.through = rw free at is in
            rw so (elim (far_then t total' held' is_open p.through opens' there) [
              | inl then ↦ inl (then.0, omega (arith, then.1, nearer, full, was))
              | inr granted ↦ inr granted
            ])
        | inr is ↦
            let none = none_free is_open p.free t p.through opens' is.1 there in
            rw is.0 (inl (there, omega (arith, nearer, full, was, none, free)))
      ]
