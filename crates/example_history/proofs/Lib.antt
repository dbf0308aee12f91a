-- What the proofs of this program stand on.
pub mod Returns
