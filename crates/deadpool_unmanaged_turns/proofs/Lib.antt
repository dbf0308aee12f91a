-- What the laws stand on.
mod Entries
pub mod InTurn
mod Steps
