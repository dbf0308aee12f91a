-- What the laws stand on. Of a queue: Ahead, Changes, Passing.
pub mod Ahead
pub mod Changes
pub mod Holding
mod Holds
pub mod Named
pub mod Own
pub mod Passing
mod Reached
mod Refused
mod Removing
mod Steps
