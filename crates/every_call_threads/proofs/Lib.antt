-- What the proofs of this program stand on.
mod Sums
