-- An owner's move is the list machine's, and without a handle it says so.
use Rattle.deadpool_trial.proofs.Cited.{may, leads_to_well, no_handle, some_handle, made_for_owner}
use Rattle.deadpool_trial.proofs.Cited.{without_handle, move_of}
use Rattle.deadpool_trial.proofs.trial.Trial.make_for_owner.Goals as goal

pub returns-then-not-has_handle-clause-made : goal.returns-then-not-has_handle-clause-made
returns-then-not-has_handle-clause-made g c =
    let none =
    no_handle c.has_handle.result c.self.inside.core.desk.handles c.has_handle.ensures c.if-not-has_handle.true in
    rw (← c.self.view_is, c.reply_to_owner.ensures) (without_handle _ _ c.args.step.now none)

pub invariant_of-self : goal.invariant_of-self
invariant_of-self g c =
    let f = c.self.inside in
    let some = some_handle c.has_handle.result f.core.desk.handles c.has_handle.ensures c.if-not-has_handle.false in
    let all = made_for_owner (may g.M.Manager g.F.SyncHook g.A.AsyncHook f.setup.environment.manager)
    (λ found. tt) f.setup f.core.desk c.make_for_owner-reply.new.self.desk f.parties.items f.out.items
    c.self.invariant.counted c.args.step.now c.make_for_owner-reply.result some
    c.make_for_owner-reply.ensures.made.0 in
    record {
      counted = all.1;
      well = leads_to_well g.M.Manager g.F.SyncHook g.A.AsyncHook f.setup.environment.manager
          (move_of c.args.step.now) _ _ _ c.self.invariant.well all.0;
      parties = c.self.invariant.parties;
      party_room = c.self.invariant.party_room;
      out_room = c.self.invariant.out_room;
    }

pub returns-clause-made : goal.returns-clause-made
returns-clause-made g c =
    let f = c.self.inside in
    let some = some_handle c.has_handle.result f.core.desk.handles c.has_handle.ensures c.if-not-has_handle.false in
    let all = made_for_owner (may g.M.Manager g.F.SyncHook g.A.AsyncHook f.setup.environment.manager)
    (λ found. tt) f.setup f.core.desk c.make_for_owner-reply.new.self.desk f.parties.items f.out.items
    c.self.invariant.counted c.args.step.now c.make_for_owner-reply.result some
    c.make_for_owner-reply.ensures.made.0 in
    rw (← c.self.view_is, c.reply_to_owner-2.ensures) all.0
