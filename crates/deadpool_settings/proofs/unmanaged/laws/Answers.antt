-- The laws of a strict reading are those of its definition.
use Rattle.deadpool_settings.proofs.UnmanagedLaws.{reads_exactly, tells_faults}
use Rattle.deadpool_settings.proofs.unmanaged.laws.Goals as goal

pub returns-clause-exact : goal.returns-clause-exact
returns-clause-exact c = reads_exactly

pub returns-clause-honest : goal.returns-clause-honest
returns-clause-honest c = tells_faults
