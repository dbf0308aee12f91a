-- What a step makes of a queue before what is free is granted: nothing, or one leaves it, or one joins.
use Rattle.std.proofs.Common.{◌≡◌, ℕ, ◌+◌, ◌≤◌, [], ◌∷◌, true, false, length, ◌∙◌, arith, Option, Some, None}
use Rattle.std.specs.Prelude.{◌==◌, ⊤}
use Rattle.std.proofs.lemmas.Bool.{or_left}
use Rattle.deadpool_gate.specs.Numbers.{has_number, without_number}
use Rattle.deadpool_gate.specs.Orders.{IsOnce, KeepsOrder}
use Rattle.deadpool_gate.specs.Queue.{Queue, is_listed, joined, members, without}
use Rattle.deadpool_gate.proofs.Numbers.{has_number-append}
use Rattle.deadpool_gate.proofs.Orders.{IsOnce-push, order_joined, order_same, order_without}
use Rattle.deadpool_gate.proofs.Queues.{members-joined, members-without, once-without}
use Rattle.deadpool_turns.specs.Ahead.{ahead}
use Rattle.deadpool_turns.proofs.Ahead.{ahead-push, ahead-without, has-without_other}

-- it is not the one that leaves, if one leaves
abbrev pub IsOther : Option ℕ → ℕ → Type 0
IsOther None t = ⊤
IsOther (Some n) t = (n == t) ≡ false

-- The queue keeps its order, and only the one that leaves is lost. If the step is calm, each other that waits is nearer
-- by so many: of what others hold, `less` is what there is less of and `more` what there is more of.
pub record Changes (Calm : Type 0) (count : ℕ) (left : Option ℕ) (less more : ℕ) (q q' : Queue) : Type 0 where
  pub order : KeepsOrder (members q) (members q')
  pub once : IsOnce (members q')
  pub granted : (t : ℕ) → IsOther left t → has_number t q.granted ≡ true → has_number t q'.granted ≡ true
  pub stays : (t : ℕ) → IsOther left t → has_number t q.waiting ≡ true → has_number t q'.waiting ≡ true
  pub nears : Calm → (t : ℕ) → IsOther left t → has_number t q.waiting ≡ true
      → length q'.granted + ahead t q'.waiting + more + count ≤ length q.granted + ahead t q.waiting + less

module _ (Calm : Type 0) (count less more : ℕ) (q : Queue) (once : IsOnce (members q)) where
  -- nothing is changed
  pub unchanged : (Calm → (t : ℕ) → has_number t q.waiting ≡ true → more + count ≤ less)
      → Changes Calm count None less more q q
  unchanged fewer =
      record {
        order = order_same (members q);
        once = once;
        granted = λ t other has. has;
        stays = λ t other waits. waits;
        nears = λ calm t other waits. let few = fewer calm t waits in omega (arith, few);
      }

  -- one leaves
  pub one_leaves : (n : ℕ)
      → (Calm → length (without_number n q.granted) + more + count ≤ length q.granted + less)
      → Changes Calm count (Some n) less more q (without n q)
  one_leaves n fewer =
      record {
        order = rw (members-without n q) (order_without n (members q));
        once = once-without n q once;
        granted = λ t other has. has-without_other t n q.granted other has;
        stays = λ t other waits. has-without_other t n q.waiting other waits;
        nears = λ calm t other waits. let few = fewer calm in
            omega (arith, few, ahead-without t n q.waiting other);
      }

  -- one joins
  pub one_joins : (n : ℕ) → is_listed n q ≡ false → (Calm → more + count ≤ less)
      → Changes Calm count None less more q (joined n q)
  one_joins n fresh fewer =
      let gone = has_number-append n q.granted q.waiting ∙ fresh in
      record {
        order = rw (members-joined n q) (order_joined n (members q) gone);
        once = rw (members-joined n q) (IsOnce-push (members q) n once gone);
        granted = λ t other has. has;
        stays = λ t other waits.
            has_number-append t q.waiting (n ∷ []) ∙ or_left (has_number t q.waiting) _ waits;
        nears = λ calm t other waits. let few = fewer calm in
            omega (arith, few, ahead-push t n q.waiting waits);
      }
