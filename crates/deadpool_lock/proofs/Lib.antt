-- Lemmas on those that wait for the end of a pool.
pub mod Lines
