-- The managed pool between threads and tasks. In the order in which it can be read.

-- What a user names to build a pool: the names of its three ledgers and of its history.
pub mod Names
-- What each get and object holds of the pool's three counts.
pub mod Counts
-- What each step under the lock does to the pool and to the wakers.
pub mod Locked
-- What a step adds to the history.
pub mod Calling
-- How a drain ends, and its calls.
pub mod Drains
-- A drain, as contracts see it.
pub mod Draining
-- How long a get waits for a place.
pub mod Waits
-- What a get gives, and what its poll is at its seat.
pub mod Gets
-- What a pool has of its builder.
pub mod Built
-- What contracts of this crate cite of those below.
pub use Rattle.deadpool_managed.specs.HookLists
pub use Rattle.deadpool_desk.specs.declared.step.Held
