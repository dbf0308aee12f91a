-- The unmanaged pool on one thread. In the order in which it can be read.

-- The pool's state without names, the steps that `Core` makes of it, which replies they have, and what holds between
-- two of them.
pub mod State
pub mod Room
pub mod StateSteps
pub mod Replies
pub mod Kept
-- What a pool counts.
pub mod Counts
-- What is left in a pool that has closed, and what its steps do with that.
pub mod Closing
-- A get and an add that are polled over it, and when a poll joins a queue.
pub mod Gets
pub mod Adds
pub mod Queueing
-- A configuration in JSON and back, and the texts of errors.
pub mod Config
pub mod Texts
-- How the fields of `Core` are seen as these. No contract of another crate cites them.
pub mod CoreFields
