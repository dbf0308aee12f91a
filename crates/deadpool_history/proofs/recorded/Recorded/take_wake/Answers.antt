-- One that is named is noted, and the history still leads to the state.
use Rattle.deadpool_history.proofs.Leads.{named_leads}
use Rattle.deadpool_history.proofs.recorded.Recorded.take_wake.Goals as goal

pub invariant_of-self : goal.invariant_of-self
invariant_of-self g c =
    named_leads c.self.inside.pool c.take_wake-named.new.self c.self.inside.author.log c.note_told.new.author.log
    c.args.caller.now.number c.take_wake-named.result c.take_wake-named.ensures c.note_told.ensures c.self.invariant
