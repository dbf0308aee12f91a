-- What the fields of a core whose steps are counted keep.
use Rattle.deadpool_desk.specs.DeskState.{size}
use Rattle.deadpool_journal.specs.Tally.{AreBalanced}
use Rattle.deadpool_trial.specs.declared.tallied_core.TalliedCore.TheInside.{Inside}

-- the books balance
abbrev pub TalliedInvariant : {T : Type 0} → Inside T → Type 0
TalliedInvariant c = AreBalanced (size c.core.desk) c.tally
