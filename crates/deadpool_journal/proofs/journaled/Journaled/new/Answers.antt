-- A new pool's journal is empty and its own, and full at once if it has no room.
use Rattle.deadpool_journal.proofs.Words.{refl, sym, arith}
use Rattle.deadpool_journal.proofs.Kept.{no_tally-balanced}
use Rattle.deadpool_desk.specs.DeskState.{new_core}
use Rattle.deadpool_journal.specs.Tally.{no_tally}
use Rattle.deadpool_journal.proofs.journaled.Journaled.new.Goals as goal

pub invariant_of-result : goal.invariant_of-result
invariant_of-result g c =
    rw (c.in_ok-core.ensures.desk, c.in_ok-log.ensures)
    (record {
      steps = (new_core c.args.limit c.args.mode 0 c.args.min_idle, refl, λ _. refl);
      within = omega arith;
      full = λ is. cc;
      counts = (
        new_core c.args.limit c.args.mode 0 c.args.min_idle,
        no_tally,
        (refl, refl),
        λ _. (refl, sym c.new-tally.ensures),
      );
      balances = no_tally-balanced c.new-tally.result c.new-tally.ensures;
    })
