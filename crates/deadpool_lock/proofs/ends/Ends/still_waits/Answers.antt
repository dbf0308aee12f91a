-- Each that is left has its place, and one that waits on is among them.
use Rattle.std.proofs.Common.{◌∙◌, sym}
use Rattle.deadpool_lock.proofs.Lines.{has_place, have_asked, listed_waiting}
use Rattle.deadpool_lock.proofs.ends.Ends.still_waits.Goals as goal
use Rattle.deadpool_lock.proofs.ends.Ends.still_waits.Goals.{in-Waiting, in_default}

pub invariant_of-self : goal.invariant_of-self
invariant_of-self c = rw c.ask.ensures.waiters (have_asked _ _ _ _ c.self.invariant)

pub returns-clause-listed : goal.returns-clause-listed
returns-clause-listed c =
    elim c.match-ask.branch [
      | in-Waiting w ↦
          rw (w.result-is, c.ask.ensures.waiters) (
          listed_waiting c.self.inside.gate.is_closed c.in_ok-at.at c.self.inside.gate.waiters
          (sym w.in-Waiting.is ∙ c.ask.ensures.answer)
          )
      | in_default w ↦ rw (w.result-is) tt
    ]

pub returns-clause-place : goal.returns-clause-place
returns-clause-place c =
    elim c.match-ask.branch [
      | in-Waiting w ↦
          rw (w.result-is) (
          has_place c.in_ok-at.at c.ask.new.self.waiters _
          (rw c.ask.ensures.waiters (have_asked _ _ _ _ c.self.invariant))
          (
          rw c.ask.ensures.waiters (
          listed_waiting c.self.inside.gate.is_closed c.in_ok-at.at c.self.inside.gate.waiters
          (sym w.in-Waiting.is ∙ c.ask.ensures.answer)
          )
          )
          )
      | in_default w ↦ rw (w.result-is) tt
    ]
