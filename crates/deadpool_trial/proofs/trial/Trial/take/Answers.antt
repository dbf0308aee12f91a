-- A take is the list machine's, and one by a party without an object says so.
use Rattle.deadpool_trial.proofs.Cited.{◌≡◌, ◌∙◌, None, refl, sym, none_there, find_slot, slot_number, may}
use Rattle.deadpool_trial.proofs.Cited.{leads_to_well, taken_known, taken, Take}
use Rattle.deadpool_trial.proofs.trial.Trial.take.Goals as goal

pub invariant_of-self : goal.invariant_of-self
invariant_of-self g c =
    let f = c.self.inside in
    rw (c.take_out.ensures.items ∙ none_there slot_number c.args.number f.out.items
    (sym c.take_out.ensures.item ∙ c.in-None.is)) record {
      counted = c.self.invariant.counted;
      well = c.self.invariant.well;
      parties = c.self.invariant.parties;
      party_room = c.self.invariant.party_room;
      out_room = rw c.take_out.ensures.capacity c.self.invariant.out_room;
    }

pub returns-in-None-clause-made : goal.returns-in-None-clause-made
returns-in-None-clause-made g c =
    let f = c.self.inside in
    let none : find_slot c.args.number f.out.items ≡ None = sym c.take_out.ensures.item ∙ c.in-None.is in
    let same = c.take_out.ensures.items ∙ none_there slot_number c.args.number f.out.items none in
    rw (← c.self.view_is, same) (rw none refl)

pub after_take-requires-clause-known : goal.after_take-requires-clause-known
after_take-requires-clause-known g c =
    let f = c.self.inside in
    taken_known (may g.M.Manager g.F.SyncHook g.A.AsyncHook f.setup.environment.manager)
    (λ found. tt) f.setup f.core.desk c.leave-reply.new.core.desk f.parties.items f.out.items c.self.invariant.counted
    c.args.number c.in-Some.slot c.leave-reply.result
    (sym c.take_out.ensures.item ∙ c.in-Some.is) c.leave-reply.ensures.made.0

pub invariant_of-self-in-Some : goal.invariant_of-self-in-Some
invariant_of-self-in-Some g c =
    let f = c.self.inside in
    let all = taken (may g.M.Manager g.F.SyncHook g.A.AsyncHook f.setup.environment.manager)
    (λ found. tt) f.setup f.core.desk c.leave-reply.new.core.desk f.parties.items f.out.items c.self.invariant.counted
    c.args.number c.in-Some.slot c.leave-reply.result c.after_take.result
    (sym c.take_out.ensures.item ∙ c.in-Some.is) c.leave-reply.ensures.made.0 c.after_take.ensures in
    rw c.take_out.ensures.items record {
      counted = all.1;
      well = leads_to_well g.M.Manager g.F.SyncHook g.A.AsyncHook f.setup.environment.manager
          (Take c.args.number) _ _ _ c.self.invariant.well all.0;
      parties = c.self.invariant.parties;
      party_room = c.self.invariant.party_room;
      out_room = rw c.take_out.ensures.capacity c.self.invariant.out_room;
    }

pub returns-in-Some-clause-made : goal.returns-in-Some-clause-made
returns-in-Some-clause-made g c =
    let f = c.self.inside in
    let all = taken (may g.M.Manager g.F.SyncHook g.A.AsyncHook f.setup.environment.manager)
    (λ found. tt) f.setup f.core.desk c.leave-reply.new.core.desk f.parties.items f.out.items c.self.invariant.counted
    c.args.number c.in-Some.slot c.leave-reply.result c.after_take.result
    (sym c.take_out.ensures.item ∙ c.in-Some.is) c.leave-reply.ensures.made.0 c.after_take.ensures in
    rw (← c.self.view_is, c.take_out.ensures.items) all.0
