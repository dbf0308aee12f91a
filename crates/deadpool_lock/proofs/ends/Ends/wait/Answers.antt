-- A task that waits on or has joined is listed, and has a place for its waker.
use Rattle.std.proofs.Common.{◌≡◌, ◌∙◌, ap}
use Rattle.std.specs.Option.{option_or}
use Rattle.deadpool_lock.proofs.Lines.{exchanged_at, listed_joined, taken_same, waker_at-room}
use Rattle.deadpool_lock.proofs.ends.Ends.wait.Goals as goal
use Rattle.deadpool_lock.proofs.ends.Ends.wait.Goals.{in-Some, in-None+in_ok-at-in-None}
use Rattle.deadpool_lock.specs.Ends.{EndsState}
use Rattle.deadpool_lock.specs.Places.{waker_at}

-- what is inside is what is seen
waiters_in : (a b : EndsState) → a ≡ b → a.line.waiters ≡ b.line.waiters
waiters_in a b same = ap (λ (e : EndsState). e.line.waiters) same

wakers_in : (a b : EndsState) → a ≡ b → a.wakers ≡ b.wakers
wakers_in a b same = ap (λ (e : EndsState). e.wakers) same

pub returns-clause-stands : goal.returns-clause-stands
returns-clause-stands c =
    elim c.match-still_waits.branch [
      | in-Some w ↦
          let line = waiters_in _ _ (c.self.view_is ∙ w.self-is) in
          let wakers = wakers_in _ _ (c.self.view_is ∙ w.self-is) in (
            rw (w.at-is, line) w.in-Some.ensures.listed,
            (
                exchanged_at c.match-still_waits.at c.self.inside.wakers c.exchange.new.self _ _ _
                (rw (w.at-is, wakers) w.in-Some.ensures.place)
                c.exchange.ensures.has c.exchange.ensures.exchanged
                ).2
                ∙ ap (λ places. option_or c.args.registered.now (waker_at c.match-still_waits.at places))
                (wakers ∙ c.still_waits.ensures.wakers),
          )
      | in-None+in_ok-at-in-None w ↦
          let line = waiters_in _ _ (c.self.view_is ∙ w.self-is) in
          let wakers = wakers_in _ _ (c.self.view_is ∙ w.self-is) in (
            rw (w.at-is, line, w.in_ok-at-in-None.ensures.joins.1) (
                listed_joined w.in_ok-at-in-None.at c.still_waits.new.self.line.waiters
                ),
            (
                exchanged_at c.match-still_waits.at c.self.inside.wakers c.exchange.new.self _ _ _
                (rw (w.at-is, wakers) w.in_ok-at-in-None.ensures.place)
                c.exchange.ensures.has c.exchange.ensures.exchanged
                ).2
                ∙ ap (option_or c.args.registered.now) (
                rw (wakers ∙ w.in_ok-at-in-None.ensures.places, w.at-is, ← c.still_waits.ensures.wakers) (
                waker_at-room w.in_ok-at-in-None.at c.still_waits.new.self.wakers
                )
                ),
          )
    ]

pub returns-clause-exchanged : goal.returns-clause-exchanged
returns-clause-exchanged c =
    elim c.match-still_waits.branch [
      | in-Some w ↦
          let wakers = wakers_in _ _ (c.self.view_is ∙ w.self-is) in
          (
          exchanged_at c.match-still_waits.at c.self.inside.wakers c.exchange.new.self _ _ _
          (rw (w.at-is, wakers) w.in-Some.ensures.place)
          c.exchange.ensures.has c.exchange.ensures.exchanged
          ).1
          ∙ taken_same c.match-still_waits.at c.args.registered.now _ _
          (ap (waker_at c.match-still_waits.at) (wakers ∙ c.still_waits.ensures.wakers))
      | in-None+in_ok-at-in-None w ↦
          let wakers = wakers_in _ _ (c.self.view_is ∙ w.self-is) in
          (
          exchanged_at c.match-still_waits.at c.self.inside.wakers c.exchange.new.self _ _ _
          (rw (w.at-is, wakers) w.in_ok-at-in-None.ensures.place)
          c.exchange.ensures.has c.exchange.ensures.exchanged
          ).1
          ∙ taken_same c.match-still_waits.at c.args.registered.now _ _ (
          rw (wakers ∙ w.in_ok-at-in-None.ensures.places, w.at-is, ← c.still_waits.ensures.wakers) (
          waker_at-room w.in_ok-at-in-None.at c.still_waits.new.self.wakers
          )
          )
    ]
