-- What a user of the shared pools cites: the names of ledgers, what gets and objects hold, the hooks of a pool, and the
-- answers of managers and hooks.
pub use Rattle.deadpool_shared.specs.Names
pub use Rattle.deadpool_desk.specs.declared.step.Held
pub use Rattle.deadpool_managed.specs.HookLists
pub use Rattle.deadpool_managed.specs.Answers
pub use Rattle.deadpool_parts.specs.declared.errors.RecycleError
