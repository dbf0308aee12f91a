-- A pool's state with its history.

-- What a caller has by its own lines, and under which ticket it waits.
pub mod Own
-- The history that leads to a state.
pub mod History
-- Which objects a retain removed.
pub mod Retains
-- Who has which object, and who waits under which ticket.
pub mod Holding
pub mod Waiting
