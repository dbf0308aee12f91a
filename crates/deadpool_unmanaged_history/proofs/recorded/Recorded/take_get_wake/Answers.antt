-- That a get is named to be woken is noted, and the history still leads to the state.
use Rattle.deadpool_unmanaged_history.proofs.Leads.{told_get_leads}
use Rattle.deadpool_unmanaged_history.proofs.recorded.Recorded.take_get_wake.Goals as goal

pub invariant_of-self-2 : goal.invariant_of-self-2
invariant_of-self-2 g c =
    told_get_leads g.K.Naming.name_of c.self.inside.pool c.take_get_wake.new.self c.self.inside.author.log
    c.note_told.new.author.log c.args.caller.now.number c.take_get_wake.result c.take_get_wake.ensures.tells
    (rw (c.in_ok-ticket.was) c.note_told.ensures) c.self.invariant
