-- How a get or an add stands in the trial is how it stands in the list machine.
use Rattle.deadpool_trial.proofs.OfUnmanaged.{Basics.◌≡◌, Basics.◌∙◌, Basics.sym, Basics.ap, Basics.Some}
use Rattle.deadpool_trial.proofs.OfUnmanaged.{Basics.slice_get, Basics.slice_get-get_or}
use Rattle.deadpool_trial.proofs.OfUnmanaged.{Words.Visitor, Seen.look_of-get}
use Rattle.deadpool_trial.proofs.OfUnmanaged.{Seen.look_of-add}
use Rattle.deadpool_trial.proofs.unmanaged.trial.Trial.look.Goals as goal

pub returns-in-Some-Some-Get-clause-look : goal.returns-in-Some-Some-Get-clause-look
returns-in-Some-Some-Get-clause-look g c =
    let f = c.self.inside in
    let w = c.in-Some-Some-Get in
    let found = rw (c.deref.ensures.value, w.is) at c.get.ensures.lookup in
    let there : slice_get f.visitors.items c.args.party ≡ Some (Some (Visitor.Get w.get)) =
    slice_get-get_or f.visitors.items c.args.party w.field-0.now found.3.0
    ∙ ap Some (sym found.1 ∙ w.field-0-is ∙ ap Some w.field-0-0-is) in
    let seen = look_of-get f.runtime f.most_parties f.next f.core.pool f.visitors.items f.out.items
    c.self.invariant.counted c.args.party w.get there in
    rw (← c.self.view_is) (rw c.stage.ensures at c.look_at_get.ensures.look ∙ sym seen)

pub returns-in-Some-Some-Add-clause-look : goal.returns-in-Some-Some-Add-clause-look
returns-in-Some-Some-Add-clause-look g c =
    let f = c.self.inside in
    let w = c.in-Some-Some-Add in
    let found = rw (c.deref.ensures.value, w.is) at c.get.ensures.lookup in
    let there : slice_get f.visitors.items c.args.party ≡ Some (Some (Visitor.Add w.add)) =
    slice_get-get_or f.visitors.items c.args.party w.field-0.now found.3.0
    ∙ ap Some (sym found.1 ∙ w.field-0-is ∙ ap Some w.field-0-0-is) in
    let seen = look_of-add f.runtime f.most_parties f.next f.core.pool f.visitors.items f.out.items
    c.self.invariant.counted c.args.party w.add there in
    rw (← c.self.view_is) (rw c.stage-in-Some-Some-Add.ensures at c.look_at_add.ensures.look ∙ sym seen)
