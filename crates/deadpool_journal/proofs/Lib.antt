-- The lemmas on a pool with a journal: steps by number, the books, what the log keeps, what a
-- retain notes, and that the books of any pool balance.
pub mod Balance
pub mod ByNumber
pub mod Kept
pub mod Retains
pub mod StaysBalanced
pub mod Words
