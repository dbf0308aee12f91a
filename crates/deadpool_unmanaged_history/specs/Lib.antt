-- An unmanaged pool's state with its history.

-- Those that were not told.
pub mod Unheard
-- Those that wait for its end.
pub mod Awaited
-- What a caller has seen by the end of its calls.
pub mod Telling
-- Under which ticket a caller waits.
pub mod Own
-- The history that leads to a state.
pub mod History
-- Polls of gets and adds, to their caller.
pub mod Polls
-- Who waits under which ticket.
pub mod Waiting
-- Who has closed the pool.
pub mod Closers
