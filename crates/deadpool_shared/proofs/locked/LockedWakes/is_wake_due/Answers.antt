-- The caller has seen all of the history, at whose end nobody is due if none is.
use mathlib.Core.List.{IsPrefix}
use Rattle.std.proofs.Common.{◌≡◌, false, sym, ◌∙◌}
use Rattle.deadpool_shared.proofs.Calls.{sees_all}
use Rattle.deadpool_shared.proofs.Ending.{drains_are_told}
use Rattle.deadpool_shared.specs.Locked.{is_end_due}
use Rattle.deadpool_shared.proofs.locked.LockedWakes.is_wake_due.Goals as goal

pub returns-then-is_wake_due-clause-keeps : goal.returns-then-is_wake_due-clause-keeps
returns-then-is_wake_due-clause-keeps g c =
    sees_all c.note_ending.new.self.log c.args.caller.now c.is_wake_due.new.caller c.is_wake_due.ensures.caller
    c.is_wake_due.ensures.seen

pub returns-else-is_wake_due-clause-keeps : goal.returns-else-is_wake_due-clause-keeps
returns-else-is_wake_due-clause-keeps g c =
    sees_all c.note_ending.new.self.log c.args.caller.now c.is_wake_due.new.caller c.is_wake_due.ensures.caller
    c.is_wake_due.ensures.seen

pub returns-else-is_wake_due-clause-quiet : goal.returns-else-is_wake_due-clause-quiet
returns-else-is_wake_due-clause-quiet g c none =
    let recorded = c.note_ending.new.self in
    let ends = c.args.self.now.ends in
    let awaits = rw (c.waiting.ensures, c.departing.ensures) at c.note_ending.ensures.awaited in
    let not_due : is_end_due ends recorded.pool.core.desk ≡ false =
    rw c.is_wake_due.ensures.same at (sym c.is_end_due.ensures ∙ none) in (
      c.is_wake_due.ensures.quiet c.if-is_wake_due.false,
      rw (c.is_wake_due.ensures.caller) (
          drains_are_told recorded.pool recorded.log ends c.is_wake_due.ensures.leads awaits not_due
          ),
    )

pub returns-then-is_wake_due-clause-noted : goal.returns-then-is_wake_due-clause-noted
returns-then-is_wake_due-clause-noted g c =
    rw (c.is_wake_due.ensures.caller) (rw (c.waiting.ensures, c.departing.ensures) at c.note_ending.ensures.awaited)

pub returns-else-is_wake_due-clause-noted : goal.returns-else-is_wake_due-clause-noted
returns-else-is_wake_due-clause-noted g c =
    rw (c.is_wake_due.ensures.caller) (rw (c.waiting.ensures, c.departing.ensures) at c.note_ending.ensures.awaited)
