-- A connection that has nothing under way.
use Rattle.std.specs.Prelude.{◌≡◌, false, IsTrue}
use Rattle.sqlite.specs.State.{State}

-- No transaction is open, and so, while the store is open, what it shows is what was committed.
pub record IsSettled (s : State) : Type 0 where
  pub autocommit : s.in_transaction ≡ false
  pub committed : IsTrue s.is_open → s.now ≡ s.committed
