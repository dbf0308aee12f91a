-- The journal of an unmanaged pool: what its steps were. In the order in which it can be read.

-- Objects by name, the owner's steps, the entries, and the steps that are noted.
pub mod ByName
pub mod OwnerSteps
pub mod LogState
pub mod Tally
pub mod Journaling
pub mod Steps
-- What a journal proves: replayed, its entries are steps of the pool.
pub mod Replay
pub mod Kept
pub mod Copies
-- What the owner's steps do with a pool that has closed.
pub mod Closing
-- How the fields are seen as these. No contract of another crate cites them.
pub mod LogFields
pub mod JournaledFields
