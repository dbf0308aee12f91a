-- A retain is the list machine's, which keeps the objects that the rule keeps.
use Rattle.deadpool_trial.proofs.Cited.{Kept, ◌≡◌, ◌∙◌, refl, ⊤, has_number, ManagerOf, LeavesOrKeeps, may, RetainerOf}
use Rattle.deadpool_trial.proofs.Cited.{Keeping, leads_to_well, no_handle, some_handle, retained_ok, retained_err}
use Rattle.deadpool_trial.proofs.Cited.{Retain}
use Rattle.deadpool_trial.proofs.trial.Trial.retain.Goals.{in-Ok, in-Err}
use Rattle.deadpool_trial.proofs.trial.Trial.retain.Goals as goal

-- what a retain is told: an object stays that has one of the numbers, and another is detached
abbrev keeps_as : {M V E C R : Type 0} → ManagerOf M V E C R → RetainerOf (Keeping M) (Kept V) V
keeps_as m = record {
  can_call = λ q. ⊤;
  may_keep = λ q number object answer left. (answer ≡ has_number number q.kept.now) × (left ≡ q);
  may_detach = λ q object left after. LeavesOrKeeps (m.may_detach q.manager.now) object.value left × (after ≡ q);
}

pub returns-then-not-has_handle-clause-made : goal.returns-then-not-has_handle-clause-made
returns-then-not-has_handle-clause-made g c =
    let none =
    no_handle c.has_handle.result c.self.inside.core.desk.handles c.has_handle.ensures c.if-not-has_handle.true in
    rw (← c.self.view_is) (rw none refl)

pub invariant_of-self : goal.invariant_of-self
invariant_of-self g c =
    let f = c.self.inside in
    let setup = f.setup in
    let some = some_handle c.has_handle.result f.core.desk.handles c.has_handle.ensures c.if-not-has_handle.false in
    elim c.match-retain.branch [
      | in-Ok w ↦
          let all =
          retained_ok (may g.M.Manager g.F.SyncHook g.A.AsyncHook f.setup.environment.manager) (λ found. tt)
          (keeps_as g.M.Manager) c.args.kept.now.items (λ q. q ≡ _)
          (λ q slot answer left is a. (rw (is, c.as_slice.ensures.value) at a.0, a.1 ∙ is))
          (λ q value left after is a. (rw is at a.0, a.1 ∙ is)) setup f.core.desk c.retain.new.self.desk
          f.parties.items f.out.items c.self.invariant.counted some _ c.retain.new.retainer refl w.in-Ok.retained
          (rw w.in-Ok.is at c.retain.ensures.retained).0 in
          record {
            counted = all.1;
            well = leads_to_well g.M.Manager g.F.SyncHook g.A.AsyncHook f.setup.environment.manager
                (Retain c.args.kept.now) _ _ _ c.self.invariant.well all.0;
            parties = c.self.invariant.parties;
            party_room = c.self.invariant.party_room;
            out_room = c.self.invariant.out_room;
          }
      | in-Err w ↦
          let all =
          retained_err (may g.M.Manager g.F.SyncHook g.A.AsyncHook f.setup.environment.manager) (λ found. tt)
          (keeps_as g.M.Manager) c.args.kept.now.items (λ q. q ≡ _)
          (λ q slot answer left is a. (rw (is, c.as_slice.ensures.value) at a.0, a.1 ∙ is))
          (λ q value left after is a. (rw is at a.0, a.1 ∙ is)) setup f.core.desk c.retain.new.self.desk
          f.parties.items f.out.items c.self.invariant.counted some _ c.retain.new.retainer refl w.in-Err.field-0
          (rw w.in-Err.is at c.retain.ensures.retained).0 in
          record {
            counted = all.1;
            well = leads_to_well g.M.Manager g.F.SyncHook g.A.AsyncHook f.setup.environment.manager
                (Retain c.args.kept.now) _ _ _ c.self.invariant.well all.0;
            parties = c.self.invariant.parties;
            party_room = c.self.invariant.party_room;
            out_room = c.self.invariant.out_room;
          }
    ]

pub returns-clause-made : goal.returns-clause-made
returns-clause-made g c =
    let f = c.self.inside in
    let setup = f.setup in
    let some = some_handle c.has_handle.result f.core.desk.handles c.has_handle.ensures c.if-not-has_handle.false in
    elim c.match-retain.branch [
      | in-Ok w ↦
          let all =
          retained_ok (may g.M.Manager g.F.SyncHook g.A.AsyncHook f.setup.environment.manager) (λ found. tt)
          (keeps_as g.M.Manager) c.args.kept.now.items (λ q. q ≡ _)
          (λ q slot answer left is a. (rw (is, c.as_slice.ensures.value) at a.0, a.1 ∙ is))
          (λ q value left after is a. (rw is at a.0, a.1 ∙ is)) setup f.core.desk c.retain.new.self.desk
          f.parties.items f.out.items c.self.invariant.counted some _ c.retain.new.retainer refl w.in-Ok.retained
          (rw w.in-Ok.is at c.retain.ensures.retained).0 in
          rw (← c.self.view_is, w.result-is) all.0
      | in-Err w ↦
          let all =
          retained_err (may g.M.Manager g.F.SyncHook g.A.AsyncHook f.setup.environment.manager) (λ found. tt)
          (keeps_as g.M.Manager) c.args.kept.now.items (λ q. q ≡ _)
          (λ q slot answer left is a. (rw (is, c.as_slice.ensures.value) at a.0, a.1 ∙ is))
          (λ q value left after is a. (rw is at a.0, a.1 ∙ is)) setup f.core.desk c.retain.new.self.desk
          f.parties.items f.out.items c.self.invariant.counted some _ c.retain.new.retainer refl w.in-Err.field-0
          (rw w.in-Err.is at c.retain.ensures.retained).0 in
          rw (← c.self.view_is, w.result-is) all.0
    ]
