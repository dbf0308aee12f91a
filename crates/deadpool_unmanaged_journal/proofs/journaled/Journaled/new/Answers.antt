-- A new pool's journal is empty, and its own.
use Rattle.std.specs.Prelude.{[]}
use Rattle.deadpool_unmanaged.specs.State.{opened}
use Rattle.deadpool_unmanaged_journal.proofs.Words.{refl, sym, arith}
use Rattle.deadpool_unmanaged_journal.proofs.Kept.{no_tally-balanced}
use Rattle.deadpool_unmanaged_journal.specs.Tally.{no_tally}
use Rattle.deadpool_unmanaged_journal.proofs.journaled.Journaled.new.Goals as goal

pub invariant_of-result : goal.invariant_of-result
invariant_of-result g c =
    rw (c.in_ok-core.ensures, c.in_ok-log.ensures)
    (record {
      steps = (opened c.args.max_size [], refl, λ _. refl);
      within = omega arith;
      full = λ is. cc;
      counts = (
        opened c.args.max_size [],
        no_tally,
        (refl, refl),
        λ _. (refl, sym c.new-tally.ensures),
      );
      balances = no_tally-balanced c.new-tally.result c.new-tally.ensures;
    })
