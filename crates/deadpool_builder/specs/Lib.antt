-- What a managed pool is made of, before it is made.
pub mod Building
-- What contracts of this crate cite of those below.
pub use Rattle.deadpool_managed.specs.HookLists
