-- A retain is noted once, with the objects that it gave up, and the history still leads to the state.
use Rattle.std.proofs.Common.{[], ◌∷◌, ◌++◌, ap, refl, ◌∙◌}
use Rattle.deadpool_history.proofs.Leads.{answers_for, has_called, noted_leads, retain_leads}
use Rattle.deadpool_history.proofs.Own.{retain_own}
use Rattle.deadpool_chronicle.specs.History.{calls_by}
use Rattle.deadpool_history.specs.History.{IsRetain}
use Rattle.deadpool_history.specs.Retains.{AnswersFor}
use Rattle.deadpool_history.specs.declared.line.Line.{Line}
use Rattle.deadpool_history.specs.declared.line.Line.TheVariants.{Next}
use Rattle.deadpool_history.proofs.recorded.Recorded.retain.Goals as goal

pub note-requires : goal.note-requires
note-requires g c =
    let found = retain_leads g.R.Retainer c.self.inside.pool c.retain-result.new.self c.args.retainer.now
    c.retain-result.new.retainer c.retain-result.result
    c.self.inside.author.log c.retain-result.ensures.retained c.self.invariant in
    record { says = (Next found.0, (found.0, (refl, found.1))) }

pub invariant_of-self : goal.invariant_of-self
invariant_of-self g c =
    let added = c.note.ensures.call.0 in
    let next = added.1.0 in
    noted_leads c.retain-result.new.self c.self.inside.author.log c.note.new.self.log c.args.caller.now.number next.0
    (added.1.1 ∙ ap (λ (l : Line). c.self.inside.author.log ++ (c.args.caller.now.number, l) ∷ []) next.1.0)
    (retain_own c.retain-result.result next.0 (calls_by c.args.caller.now.number c.self.inside.author.log) next.1.1.0)
    next.1.1.1

pub returns-clause-call : goal.returns-clause-call
returns-clause-call g c =
    let call = c.note.ensures.call in let added = call.0 in let next = added.1.0 in
    rw (← c.self.view_is)
    ((added.0, ((next.0, (next.1.0, next.1.1.0)), added.1.1, added.1.2)), call.1, call.2, call.3)

pub returns-clause-called : goal.returns-clause-called
returns-clause-called g c =
    let call = c.note.ensures.call in let added = call.0 in let next = added.1.0 in
    let leads = noted_leads c.retain-result.new.self c.self.inside.author.log c.note.new.self.log
    c.args.caller.now.number next.0
    (added.1.1 ∙ ap (λ (l : Line). c.self.inside.author.log ++ (c.args.caller.now.number, l) ∷ []) next.1.0)
    (retain_own c.retain-result.result next.0 (calls_by c.args.caller.now.number c.self.inside.author.log) next.1.1.0)
    next.1.1.1 in
    has_called c.retain-result.new.self (IsRetain c.retain-result.result) c.self.inside.author.log
    c.note.new.self.log c.args.caller.now c.note.new.caller
    ((added.0, ((next.0, (next.1.0, next.1.1.0)), added.1.1, added.1.2)), call.1, call.2, call.3)
    c.note.ensures.seen leads

pub returns-clause-which : goal.returns-clause-which
returns-clause-which g c =
    let call = c.note.ensures.call in let added = call.0 in let next = added.1.0 in
    let is = added.1.1 ∙ ap (λ (l : Line). c.self.inside.author.log ++ (c.args.caller.now.number, l) ∷ []) next.1.0 in
    let leads = noted_leads c.retain-result.new.self c.self.inside.author.log c.note.new.self.log
    c.args.caller.now.number next.0 is
    (retain_own c.retain-result.result next.0 (calls_by c.args.caller.now.number c.self.inside.author.log) next.1.1.0)
    next.1.1.1 in
    let which = answers_for g.R.Retainer c.retain-result.new.self c.retain-result.result c.self.inside.author.log
    c.note.new.self.log c.note.new.caller.seen c.args.caller.now.number next.0 is call.3 leads next.1.1.0
    next.1.1.2 in
    has_called c.retain-result.new.self (AnswersFor g.R.Retainer c.retain-result.result c.note.new.caller.seen)
    c.self.inside.author.log c.note.new.self.log c.args.caller.now c.note.new.caller
    ((added.0, ((next.0, (next.1.0, which)), added.1.1, added.1.2)), call.1, call.2, call.3)
    c.note.ensures.seen leads
