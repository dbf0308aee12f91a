-- A caller that has given an object back has that as its last call, whatever it has seen since, and one that has only
-- asked for a status has only that.
use Rattle.std.proofs.Common.{◌≡◌, ◌∙◌, ℕ, List, [], ◌∷◌, ◌++◌, Some, ap}
use Rattle.deadpool_chronicle.specs.History.{Knowing}
use Rattle.deadpool_desk.specs.declared.owner_step.OwnerReply.TheVariants as owner_reply
use Rattle.deadpool_desk.specs.declared.owner_step.OwnerStep.TheVariants as owner_step
use Rattle.deadpool_desk.specs.declared.step.Reply.{Reply}
use Rattle.deadpool_desk.specs.declared.step.Step.TheVariants.{Back}
use Rattle.deadpool_history.specs.History.{CallsAndTells}
use Rattle.deadpool_history.specs.declared.line.Line.{Line}
use Rattle.deadpool_history.specs.declared.line.Line.TheVariants.{Next}
use Rattle.deadpool_journal.specs.declared.entry.Entry.{Entry}
use Rattle.deadpool_journal.specs.declared.entry.Entry.TheVariants.{Made, Owner}
use Rattle.deadpool_parts.specs.declared.status.Status.{Status}
use Rattle.deadpool_shared.specs.Calling.{AsksStatus}
use Rattle.example_history.specs.Visits.{HasReturned}

pub has_returned : (number : ℕ) (c c' : Knowing Line)
    → ((reply : Reply) × CallsAndTells (λ e. e ≡ Made Back (Some number) reply) c c') → HasReturned number c'
has_returned number c c' back =
    let called = back.1.1.0 in
    let later : c'.mine ≡ back.1.0.mine = ap (λ (k : Knowing Line). k.mine) back.1.1.1.0 in (
      c.mine,
      (back.0, later ∙ called.1.2 ∙ ap (λ (e : Entry). c.mine ++ Next e ∷ []) called.1.0),
    )

pub has_asked : (status : Status) (c c' : Knowing Line) → c.mine ≡ [] → AsksStatus status c c'
    → c'.mine ≡ Next (Owner owner_step.Status (owner_reply.Stands status)) ∷ []
has_asked status c c' new asks =
    let called = asks.1.0 in
    let later : c'.mine ≡ asks.0.mine = ap (λ (k : Knowing Line). k.mine) asks.1.1.0 in
    later ∙ called.1.2 ∙ ap (λ (ls : List Line). ls ++ Next called.0 ∷ []) new
    ∙ ap (λ (e : Entry). Next e ∷ []) called.1.0
