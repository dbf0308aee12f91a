-- A history that callers share. In the order in which it can be read.

-- The two names of a history.
pub mod Names
-- A history, what it has of a caller, and what a call adds.
pub mod History
-- What the tokens own.
pub mod Owned
