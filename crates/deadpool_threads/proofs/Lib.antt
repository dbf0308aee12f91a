-- What the proofs of this crate stand on.
mod Each
mod GoesBack
