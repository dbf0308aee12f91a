-- A pool knows what a holder has whose share is in its counts, and the ticket under which it waits.
use Rattle.std.proofs.Common.{◌≡◌, ℕ, Option, Some, None, arith, subst}
use Rattle.deadpool_chronicle.specs.History.{Knowing}
use Rattle.deadpool_desk.specs.DeskState.{DeskState}
use Rattle.deadpool_desk.specs.DeskSteps.{Does}
use Rattle.deadpool_desk.specs.Replies.{needed}
use Rattle.deadpool_desk.specs.declared.step.Held.TheVariants as held
use Rattle.deadpool_desk.specs.declared.step.Reply.{Reply}
use Rattle.deadpool_desk.specs.declared.step.Reply.TheVariants.{Unknown}
use Rattle.deadpool_desk.specs.declared.step.Step.{Step}
use Rattle.deadpool_desk.specs.declared.step.Step.TheVariants.{Enter, Ask, Again, Discard, Created, Failed, Refused}
use Rattle.deadpool_desk.specs.declared.step.Step.TheVariants.{Back, Withdraw, Cancel, Take}
use Rattle.deadpool_history.proofs.Waiting.{last_known}
use Rattle.deadpool_history.specs.History.{HasCalled}
use Rattle.deadpool_history.specs.declared.line.Line.{Line}
use Rattle.deadpool_journal.specs.declared.entry.Entry.{Entry}
use Rattle.deadpool_journal.specs.declared.entry.Entry.TheVariants.{Made}
use Rattle.deadpool_turns.specs.Tickets.{IsTicketKnown}
use Rattle.deadpool_shared.specs.Counts.{AreIn, IsKnown, counts, counts_of}

module _ {O : Type 0} (d d' : DeskState O) where
  unknown : (step : Step) (object : Option O) (number : Option ℕ) → Does d step object Unknown d'
      → AreIn (counts_of (needed step)) (counts d.going d.creations d.outside)
      → IsTicketKnown (Made step number Unknown) → ⊥
  unknown (Enter wait) None number does shares known = absurd does.2
  unknown (Enter wait) (Some slot) number does shares known = absurd does.2
  unknown (Ask ticket expired) object number does shares known = known
  unknown (Withdraw ticket) object number does shares known = known
  unknown (Again allowance) None number does shares known =
      let none = does.0 in let some = shares.0 in omega (arith, none, some)
  unknown (Again allowance) (Some slot) number does shares known = absurd does.1
  unknown Discard None number does shares known =
      let none = does.0 in let some = shares.2 in omega (arith, none, some)
  unknown Created None number does shares known =
      let none = does.0 in let some = shares.1 in omega (arith, none, some)
  unknown Failed None number does shares known =
      let none = does.0 in let some = shares.1 in omega (arith, none, some)
  unknown Refused None number does shares known =
      let none = does.0 in let some = shares.2 in omega (arith, none, some)
  unknown Back (Some slot) number does shares known =
      let none = does.0 in let some = shares.2 in omega (arith, none, some)
  unknown Take None number does shares known =
      let none = does.0 in let some = shares.2 in omega (arith, none, some)
  unknown (Cancel held.Place) None number does shares known =
      let none = does.0 in let some = shares.0 in omega (arith, none, some)
  unknown (Cancel held.Creation) None number does shares known =
      let none = does.0 in let some = shares.1 in omega (arith, none, some)
  unknown (Cancel held.Object) None number does shares known =
      let none = does.0 in let some = shares.2 in omega (arith, none, some)
  unknown Discard (Some slot) number does shares known = absurd does
  unknown Created (Some slot) number does shares known = absurd does
  unknown Failed (Some slot) number does shares known = absurd does
  unknown Refused (Some slot) number does shares known = absurd does
  unknown Back None number does shares known = absurd does
  unknown Take (Some slot) number does shares known = absurd does
  unknown (Cancel held.Place) (Some slot) number does shares known = absurd does
  unknown (Cancel held.Creation) (Some slot) number does shares known = absurd does
  unknown (Cancel held.Object) (Some slot) number does shares known = absurd does

  pub is_known : (step : Step) (object : Option O) (number : Option ℕ) (answer : Reply) → Does d step object answer d'
      → AreIn (counts_of (needed step)) (counts d.going d.creations d.outside)
      → IsTicketKnown (Made step number answer) → IsKnown answer
  is_known step object number Unknown does shares known = unknown step object number does shares known
  is_known step object number _ does shares known = tt

-- the ticket that a caller has named
pub knows_ticket : (step : Step) (number : Option ℕ) (answer : Reply) (c c' : Knowing Line)
    → HasCalled (λ e. e ≡ Made step number answer) c c' → IsTicketKnown (Made step number answer)
knows_ticket step number answer c c' called =
    subst (λ (e : Entry). IsTicketKnown e) called.1.0
    (last_known _ c'.seen c.number called.0 called.1.1.1 called.1.5)
