-- In the order in which it can be read.
pub mod Settled
pub mod Sources
pub mod Creating
pub mod Recycling
pub mod Answers
