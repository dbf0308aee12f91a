-- What the fields of a core whose steps are counted keep.
use Rattle.deadpool_unmanaged.specs.State.{size}
use Rattle.deadpool_unmanaged_journal.specs.Tally.{AreBalanced}
use Rattle.deadpool_trial.specs.declared.unmanaged.tallied_core.TalliedCore.TheInside.{Inside}

-- the books balance
abbrev pub TalliedInvariant : {T : Type 0} → Inside T → Type 0
TalliedInvariant c = AreBalanced (size c.core.pool) c.tally
