-- What the proofs of this crate stand on.
mod Calls
mod Closed
mod Ending
mod Known
mod Lent
mod Owning
mod Preparing
mod Roomy
mod Tickets
