-- What both pools stand on. In the order in which it can be read.

-- Words for lists of what has a number, and for a `Result`.
pub mod Numbered
pub mod Result
-- Deadlines.
pub mod Moments
-- A configuration in JSON and back, and the texts of errors.
pub mod Timeouts
pub mod PoolConfig
pub mod Texts
-- The forms of the definitions above: computations that ask the outside, and runs.
pub mod Program
pub mod Runs
