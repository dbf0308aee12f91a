-- A node of a gate with one field set.
use Rattle.std.specs.Prelude.{true}
use Rattle.deadpool_gate.specs.declared.gate.store.Node.{Node}
use Rattle.deadpool_gate.specs.declared.gate.store.Change.{Change}
use Rattle.deadpool_gate.specs.declared.gate.store.Change.TheVariants as change

abbrev pub changed : Change → Node → Node
changed (change.Previous previous) node = record node { previous = previous }
changed (change.Next next) node = record node { next = next }
changed change.Granted node = record node { granted = true }
changed change.Told node = record node { told = true }
