-- Which object a step has taken or given, by what it left.
use Rattle.deadpool_unmanaged_history.proofs.Words.{◌≡◌, ◌∙◌, ◌-◌, List, [], ◌∷◌, ◌++◌, length, Option, Some, None, ap}
use Rattle.deadpool_unmanaged_history.proofs.Words.{refl, arith, length-append, slice_get-get_or, get_or-append_seam}
use Rattle.deadpool_unmanaged_history.proofs.Words.{option_or, State, last_idle, Does, Brings, Leaves, Reply, Step}
use Rattle.deadpool_unmanaged_history.proofs.Words.{object_of}
use Rattle.deadpool_unmanaged.specs.declared.step.Reply.TheVariants.{Object, Stored, Kept}
use Rattle.deadpool_unmanaged.specs.declared.step.Step.TheVariants.{GetEnter, GetAsk, AddEnter, AddAsk}
use Rattle.deadpool_unmanaged.specs.declared.step.Step.TheVariants.{Back}

module _ {T : Type 0} where
  -- what was stored last goes out next
  stored_is_last : (idle : List T) (value : T) → last_idle (idle ++ value ∷ []) ≡ Some value
  stored_is_last idle value =
      let longer = length-append idle (value ∷ []) in
      let before : length (idle ++ value ∷ []) - 1 ≡ length idle = omega (arith, longer) in
      rw before (slice_get-get_or (idle ++ value ∷ []) (length idle) value (omega (arith, longer))
      ∙ ap Some (get_or-append_seam idle value [] value))

  last_of : (d : State T) (idle : List T) (value : T) → d.idle ≡ idle ++ value ∷ [] → last_idle d.idle ≡ Some value
  last_of d idle value h = rw h (stored_is_last idle value)

  in_hand : (was hand : Option T) → hand ≡ was → hand ≡ option_or was hand
  in_hand (Some value) hand h = h
  in_hand None hand h = refl

  pub object_is : (d d' : State T) (step : Step) (was hand : Option T) (reply : Reply) → Brings step was
      → Does d step (option_or was hand) reply d' → Leaves reply was hand
      → object_of d' reply hand ≡ option_or was hand
  object_is d d' step was (Some value) Stored brings does leaves = absurd (let none = leaves in cc)
  object_is d d' step was (Some value) Kept brings does leaves = absurd (let none = leaves in cc)
  object_is d d' (AddEnter wait) (Some value) None Stored brings does leaves =
      last_of d' d.idle value (ap (λ (s : State T). s.idle) does.2)
  object_is d d' (AddAsk ticket) (Some value) None Stored brings does leaves =
      last_of d' d.idle value (ap (λ (s : State T). s.idle) does.2)
  object_is d d' Back (Some value) None Kept brings does leaves =
      last_of d' d.idle value (ap (λ (s : State T). s.idle) does.3)
  object_is d d' step None None Stored brings does leaves = absurd does
  object_is d d' step None None Kept brings does leaves = absurd does
  object_is d d' step (Some value) None Stored brings does leaves = absurd does
  object_is d d' step (Some value) None Kept brings does leaves = absurd does
  object_is d d' step None hand Object brings does leaves = refl
  object_is d d' (GetEnter wait) (Some value) hand Object brings does leaves = absurd (let none = brings in cc)
  object_is d d' (GetAsk ticket expired) (Some value) hand Object brings does leaves =
      absurd (let none = brings in cc)
  object_is d d' step (Some value) hand Object brings does leaves = absurd does
  object_is d d' step was hand _ brings does leaves = in_hand was hand leaves
