-- Scripts over a pool on one thread, with the reply to each line. Each equation computes.

-- How a script is played over a managed pool, and the worked ones.
pub mod Script
pub mod ScriptsFirstPath
pub mod ScriptsPreparation
pub mod ScriptsTimeouts
pub mod ScriptsOwnSteps
pub mod ScriptsMinIdle
pub mod ScriptsMaxWaiting
pub mod ScriptsClosing
-- The same of an unmanaged pool.
pub mod Unmanaged
