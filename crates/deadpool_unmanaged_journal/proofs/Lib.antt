-- What the proofs of a journal of an unmanaged pool share.
pub mod Balance
pub mod ByName
pub mod Kept
pub mod Words
