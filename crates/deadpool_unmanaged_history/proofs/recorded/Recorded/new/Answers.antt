-- A new pool's history is its opening alone, which leads to the state that it has.
use Rattle.deadpool_unmanaged_history.proofs.Words.{◌∙◌, [], ◌∷◌, ◌++◌, ap, silent, unnotified_of, IsLater, All-nil}
use Rattle.deadpool_unmanaged_history.proofs.First.{has_no_tally, has_none}
use Rattle.deadpool_unmanaged_history.proofs.Own.{opens_unowned}
use Rattle.deadpool_unmanaged_history.proofs.Turns.{opens_untold}
use Rattle.deadpool_unmanaged_history.proofs.recorded.Recorded.new.Goals as goal

pub invariant_of-result : goal.invariant_of-result
invariant_of-result g c =
    let n = c.args.first.now.number in
    let added = c.note.ensures.call.0 in
    let log =
    c.seen-beginning.ensures.log ∙ added.1.1 ∙ ap (λ l. l ++ (n, added.0) ∷ []) c.requires.empty
    ∙ ap (λ x. (n, x) ∷ []) added.1.0 in (
      [],
      (
        ((n, log), All-nil (λ x. IsLater x.1)),
        (
          (
            ap silent c.requires.opened,
            has_no_tally g.K.Naming.name_of c.args.pool c.laws.ensures.kept c.requires.unnoted,
          ),
          has_none c.args.pool.log c.requires.unnoted,
          rw log (ap unnotified_of c.requires.opened),
          rw log (opens_untold n c.args.pool.limit c.args.pool.max_waiting),
          rw log (opens_unowned n c.args.pool.limit c.args.pool.max_waiting),
        ),
      ),
    )
