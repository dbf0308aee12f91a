-- The lemmas on a core: its queue, what its steps serve, what a review keeps and gives up.
pub mod Names
pub mod Closing
pub mod Room
pub mod CoreQueue
pub mod Reviewing
pub mod Serving
