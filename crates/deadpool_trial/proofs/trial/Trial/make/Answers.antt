-- Each move of a trial is the list machine's, kind by kind.
use Rattle.deadpool_trial.proofs.Cited.{[], ◌∷◌, refl}
use Rattle.deadpool_trial.proofs.trial.Trial.make.Goals as goal

pub returns-in-Start-clause-made : goal.returns-in-Start-clause-made
returns-in-Start-clause-made g c =
    rw c.in-Start.is (c.start.new.self.pool ∷ [], (c.start.new.self.pool, refl, c.start.ensures.made), refl)

pub returns-in-Advance-clause-made : goal.returns-in-Advance-clause-made
returns-in-Advance-clause-made g c =
    rw c.in-Advance.is (c.advance.new.self.pool ∷ [], (c.advance.new.self.pool, refl, c.advance.ensures.made), refl)

pub returns-in-Poll-clause-made : goal.returns-in-Poll-clause-made
returns-in-Poll-clause-made g c = rw c.in-Poll.is c.poll.ensures.made

pub returns-in-Cancel-clause-made : goal.returns-in-Cancel-clause-made
returns-in-Cancel-clause-made g c =
    rw c.in-Cancel.is (c.cancel.new.self.pool ∷ [], (c.cancel.new.self.pool, refl, c.cancel.ensures.made), refl)

pub returns-in-Put-clause-made : goal.returns-in-Put-clause-made
returns-in-Put-clause-made g c =
    rw c.in-Put.is (c.put.new.self.pool ∷ [], (c.put.new.self.pool, refl, c.put.ensures.made), refl)

pub returns-in-Back-clause-made : goal.returns-in-Back-clause-made
returns-in-Back-clause-made g c =
    rw c.in-Back.is (c.back.new.self.pool ∷ [], (c.back.new.self.pool, refl, c.back.ensures.made), refl)

pub returns-in-Status-clause-made : goal.returns-in-Status-clause-made
returns-in-Status-clause-made g c =
    rw c.in-Status.is (
      c.make_for_owner-in-Status.new.self.pool ∷ [],
      (c.make_for_owner-in-Status.new.self.pool, refl, c.make_for_owner-in-Status.ensures.made),
      refl,
    )

pub returns-in-Take-clause-made : goal.returns-in-Take-clause-made
returns-in-Take-clause-made g c =
    rw c.in-Take.is (c.take.new.self.pool ∷ [], (c.take.new.self.pool, refl, c.take.ensures.made), refl)

pub returns-in-Resize-clause-made : goal.returns-in-Resize-clause-made
returns-in-Resize-clause-made g c =
    rw c.in-Resize.is (
      c.make_for_owner.new.self.pool ∷ [],
      (c.make_for_owner.new.self.pool, refl, c.make_for_owner.ensures.made),
      refl,
    )

pub returns-in-Retain-clause-made : goal.returns-in-Retain-clause-made
returns-in-Retain-clause-made g c =
    rw c.in-Retain.is (c.retain.new.self.pool ∷ [], (c.retain.new.self.pool, refl, c.retain.ensures.made), refl)

pub returns-in-Close-clause-made : goal.returns-in-Close-clause-made
returns-in-Close-clause-made g c =
    rw c.in-Close.is (
      c.make_for_owner-in-Close.new.self.pool ∷ [],
      (c.make_for_owner-in-Close.new.self.pool, refl, c.make_for_owner-in-Close.ensures.made),
      refl,
    )

pub returns-in-Clone-clause-made : goal.returns-in-Clone-clause-made
returns-in-Clone-clause-made g c =
    rw c.in-Clone.is (
      c.make_for_owner-in-Clone.new.self.pool ∷ [],
      (c.make_for_owner-in-Clone.new.self.pool, refl, c.make_for_owner-in-Clone.ensures.made),
      refl,
    )

pub returns-in-DropHandle-clause-made : goal.returns-in-DropHandle-clause-made
returns-in-DropHandle-clause-made g c =
    rw c.in-DropHandle.is (
      c.make_for_owner-in-DropHandle.new.self.pool ∷ [],
      (c.make_for_owner-in-DropHandle.new.self.pool, refl, c.make_for_owner-in-DropHandle.ensures.made),
      refl,
    )

pub returns-in-Upgrade-clause-made : goal.returns-in-Upgrade-clause-made
returns-in-Upgrade-clause-made g c =
    rw c.in-Upgrade.is (
      c.make_for_owner-in-Upgrade.new.self.pool ∷ [],
      (c.make_for_owner-in-Upgrade.new.self.pool, refl, c.make_for_owner-in-Upgrade.ensures.made),
      refl,
    )
