-- What the proofs of this crate stand on.
mod First
mod Holding
pub mod Leads
pub mod Own
mod Turns
pub mod Waiting
