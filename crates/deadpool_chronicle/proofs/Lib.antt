-- What the proofs of this crate stand on. In the order in which it can be read.

-- The pages agree with the history as it grows.
mod Agreement
-- What is done to a caller's page and to the roster of all.
mod Roster
-- What each function does to what its tokens own.
mod Changes
-- Which tokens cross threads.
mod Sent
-- What the walks by hand are written in.
pub mod Steps
pub use Rattle.atomic_table.proofs.Walks
-- What was seen stays seen.
pub mod Seeing
