-- The line is that of these counts, and the history still leads to the state.
use Rattle.std.proofs.Common.{◌++◌, [], ◌∷◌, ap, refl, ◌∙◌}
use Rattle.deadpool_history.proofs.Leads.{awaited_then, ending_leads}
use Rattle.deadpool_history.specs.declared.line.Line.{Line}
use Rattle.deadpool_history.specs.declared.line.Line.TheVariants.{Ending}
use Rattle.deadpool_history.proofs.recorded.Recorded.note_ending.Goals as goal

pub note-requires : goal.note-requires
note-requires g c = record { says = (Ending c.args.drains c.args.departing, refl) }

pub invariant_of-self : goal.invariant_of-self
invariant_of-self g c =
    let added = c.note.ensures.call.0 in
    ending_leads c.self.inside.pool c.self.inside.author.log c.note.new.self.log c.args.caller.now.number
    c.args.drains c.args.departing
    (added.1.1 ∙ ap (λ (l : Line). c.self.inside.author.log ++ (c.args.caller.now.number, l) ∷ []) added.1.0)
    c.self.invariant

pub returns-clause-awaited : goal.returns-clause-awaited
returns-clause-awaited g c =
    let added = c.note.ensures.call.0 in
    awaited_then c.self.inside.author.log c.note.new.self.log c.args.caller.now.number c.args.drains c.args.departing
    (added.1.1 ∙ ap (λ (l : Line). c.self.inside.author.log ++ (c.args.caller.now.number, l) ∷ []) added.1.0)
