-- What the proofs of a history of an unmanaged pool share.
pub mod Closers
pub mod First
pub mod Heard
pub mod Leads
pub mod Objects
pub mod Own
pub mod Turns
pub mod Waiting
pub mod Words
