-- The wakers of those that wait, those that wait for the end, and futures that ask something.
pub mod Asked
pub mod Ends
pub mod Places
