-- The order of a get, an add, a return and a take. In the order in which it can be read.

-- Kinds of states.
pub mod States
-- What it has at the pool at each state, and what is in the hand.
pub mod Has
-- Which command is that of a state, and its step.
pub mod Commands
-- What follows on what.
pub mod Follows
-- The way to an end, and how long it is.
pub mod Ends
