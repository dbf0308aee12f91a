-- Lemmas on the way to an end.
pub mod Ranks
pub mod Waits
