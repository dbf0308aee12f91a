-- A new pool's history is its opening alone, which leads to the state that it has.
use Rattle.std.proofs.Common.{ℕ, List, [], ◌∷◌, ◌++◌, ap, ◌∙◌}
use Rattle.std.proofs.lemmas.List.Elements.{All-nil}
use Rattle.deadpool_history.specs.History.{IsLater}
use Rattle.deadpool_history.specs.declared.line.Line.{Line}
use Rattle.deadpool_history.proofs.First.{has_no_tally, has_none}
use Rattle.deadpool_history.proofs.Own.{opens_unowned}
use Rattle.deadpool_history.proofs.Turns.{opens_untold}
use Rattle.deadpool_history.proofs.recorded.Recorded.new.Goals as goal

pub invariant_of-result : goal.invariant_of-result
invariant_of-result g c =
    let n = c.args.first.now.number in
    let added = c.note.ensures.call.0 in
    let log =
    c.seen-beginning.ensures.log ∙ added.1.1 ∙ ap (λ (l : List (ℕ × Line)). l ++ (n, added.0) ∷ []) c.requires.empty
    ∙ ap (λ (x : Line). (n, x) ∷ []) added.1.0 in (
      [],
      (
        ((n, log), All-nil (λ (x : ℕ × Line). IsLater x.1)),
        (
          (c.requires.opened, has_no_tally c.args.pool c.laws.ensures.kept c.requires.unnoted),
          has_none c.args.pool.log c.requires.unnoted,
          rw log (c.requires.unnotified),
          rw log (opens_untold n c.args.pool.limit c.args.pool.mode c.args.pool.min_idle c.args.pool.max_waiting),
          rw log (opens_unowned n c.args.pool.limit c.args.pool.mode c.args.pool.min_idle c.args.pool.max_waiting),
        ),
      ),
    )
