-- A pool of one place, for which two wait: what another order makes of it puts the first of them back.
use Rattle.std.proofs.Common.{ℕ, [], ◌∷◌, true, refl, arith, inl, inr}
use Rattle.deadpool_parts.specs.declared.config.QueueMode.TheVariants.{Fifo}
use Rattle.deadpool_desk.specs.DeskState.{DeskState}
use Rattle.deadpool_turns.specs.OtherOrders.{EachNearsBy, barged_in, freed_for_last, put_behind}
use Rattle.deadpool_turns.specs.Turns.{IsOrderly}

abbrev two_wait : DeskState ℕ
two_wait = record {
  limit = 1;
  is_open = true;
  mode = Fifo;
  min_idle = 0;
  max_waiting = 2;
  next = 1;
  handles = 1;
  reserve = 1;
  idle = [];
  granted = [];
  waiting = 1 ∷ 2 ∷ [];
  going = 0;
  creations = 0;
  outside = 1;
}

orderly : IsOrderly two_wait
orderly = record { nobody_waits = λ opens some. absurd (omega (arith, some)); once = (refl, (refl, tt)) }

pub last_first : EachNearsBy 1 freed_for_last → ⊥
last_first each = elim (each 1 two_wait orderly refl refl) [
  | inl near ↦ let no = near.1 in omega (arith, no)
  | inr granted ↦ cc
]

pub barge : EachNearsBy 0 barged_in → ⊥
barge each = elim (each 1 two_wait orderly refl refl) [
  | inl near ↦ let no = near.1 in omega (arith, no)
  | inr granted ↦ cc
]

pub forget : EachNearsBy 0 put_behind → ⊥
forget each = elim (each 1 two_wait orderly refl refl) [
  | inl near ↦ let no = near.1 in omega (arith, no)
  | inr granted ↦ cc
]
