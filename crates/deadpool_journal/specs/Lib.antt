-- The journal: what a pool's steps were. In the order in which it can be read.

-- Objects by number, the entries, and the steps that are noted.
pub mod ByNumber
pub mod LogState
pub mod Tally
pub mod Journaling
pub mod Steps
-- What a journal proves: replayed, its entries are steps of the desk machine.
pub mod Removals
pub mod Replay
pub mod Kept
pub mod Copies
-- How the fields are seen as these. No contract of another crate cites them.
pub mod LogFields
pub mod JournaledFields
