-- How a party stands in the trial is how it stands in the list machine.
use Rattle.deadpool_trial.proofs.Cited.{◌≡◌, ◌∙◌, refl, sym, ap, Some, None, slice_get, slice_get-map}
use Rattle.deadpool_trial.proofs.Cited.{slice_get-get_or, slice_get_past, party_of, look_of-get}
use Rattle.deadpool_trial.proofs.trial.Trial.look.Goals as goal

pub returns-in-Some-Some-clause-look : goal.returns-in-Some-Some-clause-look
returns-in-Some-Some-clause-look g c =
    let f = c.self.inside in
    let w = c.in-Some-Some in
    let found = rw (c.deref.ensures.value, w.is) at c.get.ensures.lookup in
    let there : slice_get f.parties.items c.args.party ≡ Some (Some w.get) =
    slice_get-get_or f.parties.items c.args.party w.field-0.now found.3.0 ∙ ap Some (sym found.1 ∙ w.field-0-is) in
    let seen = look_of-get f.setup f.core.desk f.parties.items f.out.items
    c.self.invariant.counted c.args.party w.get.timeouts w.get.stage there in
    rw (← c.self.view_is) (rw c.kind.ensures at c.look_at.ensures.look ∙ sym seen)

pub returns-in-Some-None-clause-look : goal.returns-in-Some-None-clause-look
returns-in-Some-None-clause-look g c =
    let f = c.self.inside in
    let w = c.in-Some-None in
    let found = rw (c.deref.ensures.value, w.is) at c.get.ensures.lookup in
    let there : slice_get f.parties.items c.args.party ≡ Some None =
    slice_get-get_or f.parties.items c.args.party w.field-0.now found.3.0 ∙ ap Some (sym found.1 ∙ w.field-0-is) in
    rw (← c.self.view_is, slice_get-map party_of f.parties.items c.args.party, there) refl

pub returns-in-None-clause-look : goal.returns-in-None-clause-look
returns-in-None-clause-look g c =
    let f = c.self.inside in
    let w = c.in-None in
    let found = rw (c.deref.ensures.value, w.is) at c.get.ensures.lookup in
    let there : slice_get f.parties.items c.args.party ≡ None = slice_get_past f.parties.items c.args.party found.3 in
    rw (← c.self.view_is, slice_get-map party_of f.parties.items c.args.party, there) refl
