-- What a holder has by the lines of its caller, after each step at its seat; and that of a get is what it prepares.
use Rattle.std.proofs.Common.{◌≡◌, ℕ, Option, Some, None, refl, ap, sym, ◌∙◌}
use Rattle.std.proofs.Common.{inl, inr, true, false}
use Rattle.std.specs.Prelude.{IsSome}
use Rattle.std.specs.Option.{option_or}
use Rattle.deadpool_chronicle.specs.History.{Knowing}
use Rattle.deadpool_desk.specs.Replies.{Brings, IsReplyTo, IsTakenBack, Leaves, left_by, needed}
use Rattle.deadpool_desk.specs.declared.slot.Slot.{Slot}
use Rattle.deadpool_desk.specs.declared.step.Held.TheVariants as held
use Rattle.deadpool_desk.specs.declared.step.Reply.{Reply}
use Rattle.deadpool_desk.specs.declared.step.Reply.TheVariants as reply
use Rattle.deadpool_desk.specs.declared.step.Step.{Step}
use Rattle.deadpool_desk.specs.declared.step.Step.TheVariants.{Enter, Ask, Again, Discard, Created, Refused}
use Rattle.deadpool_desk.specs.declared.step.Step.TheVariants.{Back, Cancel, Take}
use Rattle.deadpool_history.proofs.Own.{held_from-snoc}
use Rattle.deadpool_history.specs.Own.{held_in}
use Rattle.deadpool_history.specs.declared.line.Line.{Line}
use Rattle.deadpool_history.specs.declared.line.Line.TheVariants.{Next}
use Rattle.deadpool_journal.specs.ByNumber.{number_in}
use Rattle.deadpool_journal.specs.declared.entry.Entry.TheVariants.{Made}
use Rattle.deadpool_turns.specs.Holders.{IsOwn, gets, has_after, passing}
use Rattle.deadpool_shared.specs.Calling.{CallsFromSeat, CallsIfHeard, CallsOrRefuses, IsSupplied}
use Rattle.deadpool_shared.specs.Counts.{HasObject, Holder, held_by}
use Rattle.deadpool_shared.specs.Locked.{may_wait}

-- whoever holds what a step needs may make it
pub own_step : {T : Type 0} (step : Step) (hand : Option (Slot T)) (has : Option ℕ) → Brings step hand
    → IsTakenBack (λ n. has ≡ Some n) step hand → HasObject (needed step) has → IsOwn step (number_in hand) has
own_step Back (Some slot) has brings back holds = back slot refl refl
own_step Back None has brings back holds = absurd (let none : false ≡ true = brings in cc)
own_step Take hand has brings back holds = holds
own_step Discard hand has brings back holds = holds
own_step Refused hand has brings back holds = holds
own_step (Cancel held.Object) hand has brings back holds = holds
own_step _ hand has brings back holds = tt

-- who is served an object has it
served_has : {T : Type 0} (hand : Option (Slot T)) (has : Option ℕ) → IsSome hand
    → IsSome (has_after (gets (number_in hand)) has)
served_has (Some slot) has some = refl
served_has None has some = absurd (let none : false ≡ true = some in cc)

-- so it has one where the step leaves it one
pub leaves_object : {T : Type 0} (step : Step) (was hand : Option (Slot T)) (answer : Reply) (has : Option ℕ)
    → Brings step was → IsReplyTo step answer → Leaves answer was hand
    → HasObject (left_by step answer) (has_after (passing step (number_in (option_or was hand)) answer) has)
leaves_object (Enter wait) None hand (reply.Object left) has brings fits leaves = served_has hand has leaves
leaves_object (Ask ticket expired) None hand (reply.Object left) has brings fits leaves = served_has hand has leaves
leaves_object (Again allowance) None hand (reply.Object left) has brings fits leaves = served_has hand has leaves
leaves_object Created was hand (reply.Number number) has brings fits leaves = refl
leaves_object (Enter wait) (Some slot) hand answer has brings fits leaves =
    absurd (let no : Some slot ≡ None = brings in cc)
leaves_object (Ask ticket expired) (Some slot) hand answer has brings fits leaves =
    absurd (let no : Some slot ≡ None = brings in cc)
leaves_object (Again allowance) (Some slot) hand answer has brings fits leaves =
    absurd (let no : Some slot ≡ None = brings in cc)
leaves_object (Enter wait) None hand _ has brings fits leaves = tt
leaves_object (Ask ticket expired) None hand _ has brings fits leaves = tt
leaves_object (Again allowance) None hand _ has brings fits leaves = tt
leaves_object Created was hand _ has brings fits leaves = tt
leaves_object Discard was hand reply.Done has brings fits leaves = tt
leaves_object Discard was hand _ has brings fits leaves = tt
leaves_object _ was hand answer has brings fits leaves = tt

refused_stays : (step : Step) (number has : Option ℕ) → may_wait step ≡ true
    → has ≡ has_after (passing step number reply.OutOfMemory) has
refused_stays (Enter wait) number has may = refl
refused_stays _ number has may = absurd (let no : false ≡ true = may in cc)

-- by its lines, after a call of its own
pub has_called : (step : Step) (number : Option ℕ) (answer : Reply) (c c' : Knowing Line)
    → CallsOrRefuses step number answer c c'
    → held_in c'.mine ≡ has_after (passing step number answer) (held_in c.mine)
has_called step number answer c c' (inl called) =
    rw (called.1.2, called.1.0) (held_from-snoc None c.mine (Next (Made step number answer)))
has_called step number answer c c' (inr refused) =
    rw (refused.1, refused.0.1) (refused_stays step number (held_in c.mine) refused.0.0)

has_heard : (step : Step) (number : Option ℕ) (answer : Reply) (h h' : Option Holder)
    → CallsIfHeard step number answer h h' → held_by h' ≡ has_after (passing step number answer) (held_by h)
has_heard step number answer (Some h) (Some h') heard =
    let mine : h'.caller.mine ≡ heard.0.mine = ap (λ (k : Knowing Line). k.mine) heard.1.1.0 in
    rw mine (has_called step number answer h.caller heard.0 heard.1.0)
has_heard step number answer (Some h) None heard = absurd heard
has_heard step number answer None (Some h') heard = absurd heard
has_heard (Enter wait) number reply.Exhausted None None heard = refl
has_heard _ number _ None None heard = absurd heard

pub has_supplied : (h supplied : Option Holder) → IsSupplied h supplied → held_by supplied ≡ held_by h
has_supplied (Some h) supplied is = rw is refl
has_supplied None (Some h) is = rw (is.1.0) refl
has_supplied None None is = refl

-- what a holder has after a step at its seat
pub has_stepped : (step : Step) (number : Option ℕ) (answer : Reply) (h h' : Option Holder)
    → CallsFromSeat step number answer h h' → held_by h' ≡ has_after (passing step number answer) (held_by h)
has_stepped step number answer h h' calls =
    rw (← has_supplied h calls.0 calls.1.0) (has_heard step number answer calls.0 h' calls.1.1)

-- so a step that may be made at a seat is its maker's own
pub own_at_seat : {T : Type 0} (step : Step) (hand : Option (Slot T)) (entry supplied : Option Holder) (h : Holder)
    → supplied ≡ Some h → IsSupplied entry supplied → Brings step hand
    → IsTakenBack (λ n. held_by entry ≡ Some n) step hand → HasObject (needed step) (held_by entry)
    → IsOwn step (number_in hand) (held_in h.caller.mine)
own_at_seat step hand entry supplied h same from brings back holds =
    let has : held_in h.caller.mine ≡ held_by entry = ap held_by (sym same) ∙ has_supplied entry supplied from in
    rw has (own_step step hand (held_by entry) brings back holds)

-- and leaves it an object where it says so
pub left_at_seat : {T : Type 0} (step : Step) (was hand : Option (Slot T)) (answer : Reply) (h h' : Option Holder)
    → CallsFromSeat step (number_in (option_or was hand)) answer h h' → Brings step was → IsReplyTo step answer
    → Leaves answer was hand → HasObject (left_by step answer) (held_by h')
left_at_seat step was hand answer h h' calls brings fits leaves =
    rw (has_stepped step (number_in (option_or was hand)) answer h h' calls)
    (leaves_object step was hand answer (held_by h) brings fits leaves)

pub some_has : (has : Option ℕ) (n : ℕ) → has ≡ Some n → IsSome has
some_has has n is = rw is refl
