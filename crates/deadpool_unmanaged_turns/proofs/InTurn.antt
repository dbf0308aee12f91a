-- The laws, from what each entry makes of the queues.
use Rattle.std.proofs.Common.{◌≤◌, List, [], ◌∷◌, refl, ap, arith, inl, inr}
use Rattle.deadpool_unmanaged.specs.State.{State}
use Rattle.deadpool_unmanaged_journal.specs.Replay.{IsStep, Runs}
use Rattle.deadpool_unmanaged_journal.specs.declared.entry.Entry.{Entry}
use Rattle.deadpool_unmanaged_turns.specs.Steps.{come_in, gone_in}
use Rattle.deadpool_unmanaged_turns.specs.Turns.{EachAddIsGrantedInTurn, EachAddNears, EachGetIsGrantedInTurn}
use Rattle.deadpool_unmanaged_turns.specs.Turns.{EachGetNears, EachKeepsItsGrant, EachReachedIsOrderly}
use Rattle.deadpool_unmanaged_turns.specs.Turns.{EachStaysQueued, EachStepKeepsOrder, IsGranted, IsOrderly, IsWithin}
use Rattle.deadpool_unmanaged_turns.specs.Turns.{distance}
use Rattle.deadpool_unmanaged_turns.proofs.Entries.{add_granted, add_nears, add_queued, get_granted, get_nears}
use Rattle.deadpool_unmanaged_turns.proofs.Entries.{get_queued, in_order, orderly}

pub keeps_order : (O : Type 0) → EachStepKeepsOrder O
keeps_order O d d' e s h = (orderly e d d' s h, in_order e d d' s h)

pub stays : (O : Type 0) → EachStaysQueued O
stays O t d d' e s h = record { get = get_queued e d d' s h t; add = add_queued e d d' s h t }

pub keeps_grant : (O : Type 0) → EachKeepsItsGrant O
keeps_grant O t d d' e s h = record { get = get_granted e d d' s h t; add = add_granted e d d' s h t }

pub get_comes_nearer : (O : Type 0) → EachGetNears O
get_comes_nearer O t d d' e s used waits calm =
    get_nears e d d' s calm.step t used.opens used.handles (calm.in_use.opens, calm.in_use.handles) calm.stays waits

pub add_comes_nearer : (O : Type 0) → EachAddNears O
add_comes_nearer O t d d' e s opens waits calm = add_nears e d d' s calm.step t opens calm.opens calm.stays waits

module _ {O : Type 0} where
  -- what has come about within some steps has come about within one step more before them
  within_more : (Has : State O → Type 0) (d next : State O) (e : Entry O) (es : List (Entry O)) → IsStep d e next
      → IsWithin Has next es → IsWithin Has d (e ∷ es)
  within_more Has d next e es step rest = (
    e ∷ rest.0,
    (
      rest.1.0,
      (
        ap (λ (l : List (Entry O)). e ∷ l) rest.1.1.0,
        (rest.1.1.1.0, ((next, (step, rest.1.1.1.1.0)), rest.1.1.1.1.1)),
      ),
    ),
  )

  -- and what a step has brought about
  within_one : (Has : State O → Type 0) (d next : State O) (e : Entry O) (es : List (Entry O)) → IsStep d e next
      → Has next → IsWithin Has d (e ∷ es)
  within_one Has d next e es step has = (e ∷ [], (es, (refl, (next, ((next, (step, refl)), has)))))

pub get_in_turn : (O : Type 0) → EachGetIsGrantedInTurn O
get_in_turn O t d d' [] s used waits runs enough = absurd (omega (arith, enough))
get_in_turn O t d d' (e ∷ es) s used waits runs enough =
    let next = runs.0 in
    let calm = runs.1.0 in
    elim (get_comes_nearer O t d next e s used waits calm) [
      | inl nearer ↦
          let left : distance t next.gets ≤ come_in es = omega (arith, nearer.1, enough) in
          within_more (λ now. IsGranted t now.gets) d next e es calm.step
          (get_in_turn O t next d' es (orderly e d next s calm.step) calm.in_use nearer.0 runs.1.1 left)
      | inr granted ↦ within_one (λ now. IsGranted t now.gets) d next e es calm.step granted
    ]

pub add_in_turn : (O : Type 0) → EachAddIsGrantedInTurn O
add_in_turn O t d d' [] s opens waits runs enough = absurd (omega (arith, enough))
add_in_turn O t d d' (e ∷ es) s opens waits runs enough =
    let next = runs.0 in
    let calm = runs.1.0 in
    elim (add_comes_nearer O t d next e s opens waits calm) [
      | inl nearer ↦
          let left : distance t next.adds ≤ gone_in es = omega (arith, nearer.1, enough) in
          within_more (λ now. IsGranted t now.adds) d next e es calm.step
          (add_in_turn O t next d' es (orderly e d next s calm.step) calm.opens nearer.0 runs.1.1 left)
      | inr granted ↦ within_one (λ now. IsGranted t now.adds) d next e es calm.step granted
    ]

-- a run keeps it orderly
stays_orderly : {O : Type 0} (d d' : State O) (es : List (Entry O)) → IsOrderly d → Runs d es d' → IsOrderly d'
stays_orderly d d' [] s runs = rw runs s
stays_orderly d d' (e ∷ es) s runs = stays_orderly runs.0 d' es (orderly e d runs.0 s runs.1.0) runs.1.1

pub reached : (O : Type 0) → EachReachedIsOrderly O
reached O limit most es d runs =
    stays_orderly _ d es (record {
      gets = record { nobody_waits = λ opens some. refl; once = tt };
      adds = record { nobody_waits = λ opens some. refl; once = tt };
      objects = λ opens handles. omega arith;
      room = omega arith;
    }) runs
