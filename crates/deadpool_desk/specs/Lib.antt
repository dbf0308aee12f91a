-- The managed pool's state on one thread. In the order in which it can be read.

-- The replies to each step, and what is in the hand then.
pub mod Replies
-- The desk machine: the pool's state by tickets and counts, and its steps by their replies.
pub mod DeskState
pub mod DeskSteps
pub mod Retained
pub mod Retains
-- A core: a desk, and who was not told; its steps, and what holds between them.
pub mod CoreState
pub mod CoreSteps
pub mod Rooms
pub mod Settled
-- What a pool counts.
pub mod Counts
-- What is left in a pool that has closed, and what its steps do with that.
pub mod Closing
-- The places by queue and counts, how the fields of a core are seen as its state, and the machine as a desk. No
-- contract of a user cites them.
pub mod Places
pub mod CoreFields
pub mod CoreDesk
