-- The names that the walks cite.
pub mod Steps
-- A box and a block, each as a pointer with a handle, and the two calls between them.
pub mod Unboxed
pub mod BoxCalls
-- The box and the block of each kind of pool.
pub mod ManagedBox
pub mod UnmanagedBox
-- Keys that are written one by one, and the names that their proofs cite.
pub mod Writing
pub mod Words
