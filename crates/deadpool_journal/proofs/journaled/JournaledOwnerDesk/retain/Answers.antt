-- After a retain, with memory for its notes or without, the journal is still the pool's own.
use Rattle.deadpool_journal.proofs.{Words.refl, Words.sym, Words.◌∙◌, Words.Ok, Words.Err, Words.retains_forget}
use Rattle.deadpool_journal.proofs.{Words.journaling_of, Words.Entry, Kept.step_kept, Retains.retain_numbered}
use Rattle.deadpool_journal.proofs.{Retains.refused_retain_numbered, Retains.unnoted_retain, Retains.unnoted_kept}
use Rattle.deadpool_journal.proofs.journaled.JournaledOwnerDesk.retain.Goals as goal

pub invariant_of-self-in-Ok : goal.invariant_of-self-in-Ok
invariant_of-self-in-Ok g c =
    let core = c.self.inside.core in
    let left = c.retain_noting.new.self in
    let made = retain_numbered g.R.Retainer core.desk left.desk c.args.retainer.now c.retain_noting.new.retainer
    (c.in-Ok.result, c.in-Ok.noted) c.in-Ok.ensures.retained.0 in
    rw (
      c.add.ensures,
      c.count_not_retained.ensures,
      c.saturating_sub-fewer.ensures,
      c.size_of-size.ensures,
      c.size_of-in-Ok.ensures,
    )
    (step_kept (journaling_of c.self.inside) left (Entry.Retain (Ok c.in-Ok.noted)) c.self.invariant made)

pub invariant_of-self-in-Err : goal.invariant_of-self-in-Err
invariant_of-self-in-Err g c =
    let core = c.self.inside.core in
    let left = c.retain_noting.new.self in
    let made = refused_retain_numbered g.R.Retainer core.desk left.desk c.args.retainer.now c.retain_noting.new.retainer
    c.in-Err.e c.in-Err.ensures.retained.0 in
    rw c.add-in-Err.ensures
    (step_kept (journaling_of c.self.inside) left (Entry.Retain (Err c.in-Err.e)) c.self.invariant made)

pub returns-in-Ok-clause-retained : goal.returns-in-Ok-clause-retained
returns-in-Ok-clause-retained g c =
    let core = c.self.inside.core in
    let left = c.retain_noting.new.self in
    let did = c.in-Ok.ensures.retained in
    rw (← c.self.view_is) (
      (
        retains_forget g.R.Retainer core.desk left.desk c.args.retainer.now c.retain_noting.new.retainer (
          c.in-Ok.result,
          c.in-Ok.noted,
        ) did.0,
        did.1,
        did.2,
      ),
      (
        c.in-Ok.noted,
        did,
        rw (
          c.add.ensures,
          c.count_not_retained.ensures,
          c.saturating_sub-fewer.ensures,
          c.size_of-size.ensures,
          c.size_of-in-Ok.ensures,
        ) refl,
      ),
    )

pub invariant_of-self : goal.invariant_of-self
invariant_of-self g c =
    let none = sym c.has_room.ensures ∙ c.if-not-has_room.true in
    rw (
      c.mark_full.ensures,
      c.count_retain.ensures,
      c.saturating_sub-gone.ensures,
      c.size_of-size.ensures,
      c.size_of.ensures,
    )
    (unnoted_kept g.R.Retainer (journaling_of c.self.inside) c.retain-result.new.self c.args.retainer.now
    c.retain-result.new.retainer c.retain-result.result c.self.invariant c.retain-result.ensures.retained none)

pub returns-then-not-has_room-clause-retained : goal.returns-then-not-has_room-clause-retained
returns-then-not-has_room-clause-retained g c =
    let none = sym c.has_room.ensures ∙ c.if-not-has_room.true in
    let did = c.retain-result.ensures.retained in
    rw (
      ← c.self.view_is,
      c.mark_full.ensures,
      c.count_retain.ensures,
      c.saturating_sub-gone.ensures,
      c.size_of-size.ensures,
      c.size_of.ensures,
    ) (
      did,
      unnoted_retain g.R.Retainer (journaling_of c.self.inside) c.retain-result.new.self c.args.retainer.now
          c.retain-result.new.retainer c.retain-result.result did none,
    )
