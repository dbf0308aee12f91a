-- Who has a place, and when, in a run of a managed pool on one thread.
pub mod Turns
