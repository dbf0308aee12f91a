-- Who has closed a pool, by its own calls.
use Rattle.std.specs.Prelude.{⊤, List, [], ◌∷◌, ◌≢◌}
use Rattle.deadpool_chronicle.specs.History.{Knowing}
use Rattle.deadpool_unmanaged_journal.specs.declared.entry.Entry.TheVariants.{Owner}
use Rattle.deadpool_unmanaged_journal.specs.declared.owner_step.OwnerReply.TheVariants as owner_reply
use Rattle.deadpool_unmanaged_journal.specs.declared.owner_step.OwnerStep.TheVariants as owner_step
use Rattle.deadpool_unmanaged_history.specs.declared.line.Line.{Line}
use Rattle.deadpool_unmanaged_history.specs.declared.line.Line.TheVariants.{Next}

module _ {T : Type 0} where
  -- none of these lines closes the pool
  abbrev pub NoneCloses : List (Line T) → Type 0
  NoneCloses [] = ⊤
  NoneCloses (line ∷ lines) = (line ≢ Next (Owner owner_step.Close owner_reply.Done)) × NoneCloses lines

  -- it has closed the pool
  abbrev pub IsCloser : Knowing (Line T) → Type 0
  IsCloser c = NoneCloses c.mine → ⊥
