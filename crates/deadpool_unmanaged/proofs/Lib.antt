-- The lemmas on an unmanaged core: its two queues, what its steps keep and what they leave of a closed pool,
-- that room for those that wait lasts, a configuration that reads back.
pub mod Closing
pub mod ConfigReadsBack
pub mod CoreQueues
pub mod Kept
pub mod Room
pub mod Words
