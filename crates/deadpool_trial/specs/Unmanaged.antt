-- Runs over an unmanaged pool. In the order in which it can be read.

-- The list machine: a pool in lists, its steps, the moves that parties make, and what is true of each run.
pub mod Pool
pub mod Steps
pub mod Moves
pub mod Laws
pub mod RunLaws
-- What is seen of a pool between its moves.
pub mod Look
-- How the fields of a trial are seen as the machine. No contract of another crate cites them.
pub mod TrialFields
pub mod Image
pub mod TalliedFields
