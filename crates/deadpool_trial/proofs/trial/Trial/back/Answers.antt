-- A return is the list machine's, and one by a party without an object says so.
use Rattle.deadpool_trial.proofs.Cited.{◌≡◌, ◌∙◌, None, refl, sym, none_there, find_slot, slot_number, back_known}
use Rattle.deadpool_trial.proofs.Cited.{came_back}
use Rattle.deadpool_trial.proofs.trial.Trial.back.Goals as goal

pub invariant_of-self : goal.invariant_of-self
invariant_of-self g c =
    let f = c.self.inside in
    rw (c.take_out.ensures.items ∙ none_there slot_number c.args.number f.out.items
    (sym c.take_out.ensures.item ∙ c.in-None.is)) record {
      counted = c.self.invariant.counted;
      well = c.self.invariant.well;
      parties = c.self.invariant.parties;
      party_room = c.self.invariant.party_room;
      out_room = rw c.take_out.ensures.capacity c.self.invariant.out_room;
    }

pub returns-in-None-clause-made : goal.returns-in-None-clause-made
returns-in-None-clause-made g c =
    let f = c.self.inside in
    let none : find_slot c.args.number f.out.items ≡ None = sym c.take_out.ensures.item ∙ c.in-None.is in
    let same = c.take_out.ensures.items ∙ none_there slot_number c.args.number f.out.items none in
    rw (← c.self.view_is, same) (rw none refl)

pub after_back-requires : goal.after_back-requires
after_back-requires g c =
    let f = c.self.inside in
    let made = c.make-reply.ensures in
    back_known f.core.desk c.make-reply.new.self.desk f.parties.items f.out.items c.args.number c.in-Some.slot
    c.self.invariant.counted (sym c.take_out.ensures.item ∙ c.in-Some.is) c.make-reply.result c.make-reply.new.hand
    made.made.0 made.hand

pub invariant_of-self-in-Some : goal.invariant_of-self-in-Some
invariant_of-self-in-Some g c =
    let f = c.self.inside in
    let made = c.make-reply.ensures in
    let all = came_back g.M.Manager g.F.SyncHook g.A.AsyncHook f.setup.environment.manager f.setup f.core
    c.make-reply.new.self f.parties.items f.out.items
    c.self.invariant.counted c.self.invariant.well c.args.number c.in-Some.slot c.make-reply.result
    c.make-reply.new.hand c.after_back.result
    (sym c.take_out.ensures.item ∙ c.in-Some.is) made.made.0 made.hand c.after_back.ensures in
    rw c.take_out.ensures.items record {
      counted = all.1;
      well = all.2;
      parties = c.self.invariant.parties;
      party_room = c.self.invariant.party_room;
      out_room = rw c.take_out.ensures.capacity c.self.invariant.out_room;
    }

pub returns-in-Some-clause-made : goal.returns-in-Some-clause-made
returns-in-Some-clause-made g c =
    let f = c.self.inside in
    let made = c.make-reply.ensures in
    let all = came_back g.M.Manager g.F.SyncHook g.A.AsyncHook f.setup.environment.manager f.setup f.core
    c.make-reply.new.self f.parties.items f.out.items
    c.self.invariant.counted c.self.invariant.well c.args.number c.in-Some.slot c.make-reply.result
    c.make-reply.new.hand c.after_back.result
    (sym c.take_out.ensures.item ∙ c.in-Some.is) made.made.0 made.hand c.after_back.ensures in
    rw (← c.self.view_is, c.take_out.ensures.items) all.0
