-- Runs over a managed pool. In the order in which it can be read.

-- The list machine: a pool in lists, its steps, what a party does, the moves, and what is true of each run.
pub mod Pool
pub mod Steps
pub mod Party
pub mod Moves
pub mod Laws
pub mod RunLaws
-- What a trial shows of it.
pub mod TrialState
pub mod Look
-- How the fields of a trial are seen as the machine. No contract of another crate cites them.
pub mod TrialFields
pub mod Image
pub mod TalliedFields
-- The same of an unmanaged pool.
pub mod Unmanaged
-- What the machine cites of the crate below: which idle object is the last, and why a get or an add is refused.
pub use Rattle.deadpool_unmanaged.specs.State
pub use Rattle.deadpool_unmanaged.specs.declared.error.PoolError
