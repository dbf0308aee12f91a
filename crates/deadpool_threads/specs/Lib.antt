-- What a wait for one future answers.
pub mod Answered
-- What may come of a pool that is lent.
pub mod Returned
