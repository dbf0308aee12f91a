-- What the get's progress comes to at its seat is what the poll gives.
use Rattle.std.proofs.Common.{◌∙◌, Some, Ok, Err, inl, inr, ap, refl, sym}
use Rattle.deadpool_managed.specs.Phases.{stage_of, turn_of}
use Rattle.deadpool_managed.specs.Steps.{lent}
use Rattle.deadpool_managed.specs.declared.get.Turn.TheVariants as turn
use Rattle.deadpool_shared.proofs.Preparing.{gives_own, own_while, polled_at, waits_on}
use Rattle.deadpool_shared.proofs.Tickets.{waits_after, waits_own}
use Rattle.deadpool_shared.specs.Counts.{held_by}
use Rattle.deadpool_shared.proofs.asking.GettingRequest.poll.Goals as goal

pub returns-in-More-clause-polls : goal.returns-in-More-clause-polls
returns-in-More-clause-polls g c =
    let left = c.put.ensures ∙ c.into_shares.ensures in
    rw (← c.self.view_is) (
      refl,
      (
        _,
        (
          _,
          (
            _,
            (
              rw (c.new-seat.ensures, c.take.ensures.value, c.timeouts-timeouts.ensures) at c.run-came.ensures.polled,
              rw (c.is_queued.ensures) at c.see.ensures,
              elim c.in-More.is [ inl more ↦ rw (more) left | inr pending ↦ rw (pending) left ],
            ),
          ),
        ),
      ),
    )

pub returns-in-Failed-clause-polls : goal.returns-in-Failed-clause-polls
returns-in-Failed-clause-polls g c =
    rw (← c.self.view_is, c.refuse.ensures) (
      refl,
      (
        _,
        (
          turn.Done (Err c.in-Failed.cause),
          (
            _,
            (
              rw (c.new-seat.ensures, c.take.ensures.value, c.timeouts-timeouts.ensures, c.in-Failed.is)
                  at c.run-came.ensures.polled,
              rw (c.is_queued-in-Failed.ensures) at c.see-in-Failed.ensures,
              (refl, c.put.ensures ∙ c.into_shares.ensures),
            ),
          ),
        ),
      ),
    )

pub returns-in_default-clause-polls : goal.returns-in_default-clause-polls
returns-in_default-clause-polls g c =
    rw (← c.self.view_is, c.give.ensures.phase) (
      refl,
      (
        _,
        (
          turn.Pending,
          (
            _,
            (
              rw (
                c.new-seat.ensures,
                c.take.ensures.value,
                c.timeouts-timeouts.ensures,
                c.run-came.ensures.given c.in-Given.is,
                c.in-Given.is,
                ← c.give.ensures.slot,
                c.in_default.is,
              )
                  at c.run-came.ensures.polled,
              c.end-waited.ensures.ended,
              c.put.ensures ∙ c.into_shares.ensures,
            ),
          ),
        ),
      ),
    )

pub returns-clause-polls : goal.returns-clause-polls
returns-clause-polls g c =
    rw (← c.self.view_is, c.give.ensures.phase) (
      refl,
      (
        _,
        (
          turn.Done (Ok c.in-Some.slot),
          (
            _,
            (
              rw (
                c.new-seat.ensures,
                c.take.ensures.value,
                c.timeouts-timeouts.ensures,
                c.run-came.ensures.given c.in-Given.is,
                c.in-Given.is,
                ← c.give.ensures.slot,
                c.in-Some.is,
              )
                  at c.run-came.ensures.polled,
              c.end-waited.ensures.ended,
              (
                _,
                (
                  c.from.ensures,
                  refl,
                  sym (c.put.ensures ∙ c.into_shares.ensures) ∙ sym c.take-2.ensures.value ∙ c.in-Some-take.is
                      ∙ ap Some (sym c.new-out.ensures.shares),
                  c.end-waited.ensures.waited,
                ),
              ),
            ),
          ),
        ),
      ),
    )

pub returns-clause-gives : goal.returns-clause-gives
returns-clause-gives g c =
    rw (c.end.ensures.kept) (
      _,
      (
        (
          rw (c.in-Given.is, ← c.give.ensures.slot, c.in-Some.is) at c.run-came.ensures.ready,
          sym c.new-out.ensures.home,
        ),
        c.from.ensures,
      ),
    )

pub returns-in-More-clause-fits : goal.returns-in-More-clause-fits
returns-in-More-clause-fits g c =
    let fits = rw (← c.self.view_is) at c.requires.fits in
    let lends = lent g.M.Manager g.F.SyncHook g.A.AsyncHook c.args.shared.now.environment c.now-now.result
    c.timeouts-timeouts.result.now in
    let before = stage_of c.self.inside.progress.phase c.self.inside.progress.slot in
    let after = stage_of c.run-came.new.self.phase c.run-came.new.self.slot in
    let turn = turn_of c.run-came.result c.run-came.new.self.slot in
    let polled = rw (c.new-seat.ensures, c.take.ensures.value) at c.run-came.ensures.polled in
    let same = c.put.ensures ∙ c.into_shares.ensures in
    let holds =
    waits_on c.args.stage.now c.run-came.result c.run-came.new.self.slot after c.run-came.new.desk c.put.new.place
    c.requires.asks c.in-More.is same c.run-came.ensures.holds
    (polled_at lends c.self.inside.shares c.run-came.new.desk before after turn polled
    (own_while c.args.stage.now _ _ c.requires.asks fits.1)) in
    let own = waits_own lends c.self.inside.shares c.run-came.new.desk before after turn polled in
    (holds.0, holds.1, waits_after c.args.stage.now after c.run-came.new.desk c.put.new.place same own)

pub invariant_of-from : goal.invariant_of-from
invariant_of-from g c =
    let fits = rw (← c.self.view_is) at c.requires.fits in
    let own =
    polled_at
    (lent g.M.Manager g.F.SyncHook g.A.AsyncHook c.args.shared.now.environment c.now-now.result
    c.timeouts-timeouts.result.now)
    c.self.inside.shares c.run-came.new.desk
    (stage_of c.self.inside.progress.phase c.self.inside.progress.slot)
    (stage_of c.run-came.new.self.phase c.run-came.new.self.slot)
    (turn_of c.run-came.result c.run-came.new.self.slot)
    (rw (c.new-seat.ensures, c.take.ensures.value) at c.run-came.ensures.polled)
    (own_while c.args.stage.now _ _ c.requires.asks fits.1) in
    let seat =
    sym (c.put.ensures ∙ c.into_shares.ensures) ∙ sym c.take-2.ensures.value ∙ c.in-Some-take.is
    ∙ ap Some (sym c.new-out.ensures.shares) in
    record {
      is_own = sym (ap held_by seat)
          ∙ gives_own c.run-came.result c.run-came.new.self.slot c.in-Some.slot
          (stage_of c.run-came.new.self.phase c.run-came.new.self.slot) (held_by c.run-came.new.desk) c.in-Given.is
          (sym c.give.ensures.slot ∙ c.in-Some.is) own;
    }
