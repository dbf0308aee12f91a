-- The queue of those that wait. In the order in which it can be read.

-- Words for lists of numbers, and of those that ask for something.
pub mod Numbers
pub mod Orders
pub mod Queue
pub mod Room
pub mod Owners
pub mod Waking
-- The gate: one list of waiters.
pub mod Gate
-- What its waiters are granted of what there is in all.
pub mod Served
-- How the gate's fields are seen as its list. No contract of another crate cites these.
pub mod GateNodes
pub mod GateLinks
pub mod GateFields
