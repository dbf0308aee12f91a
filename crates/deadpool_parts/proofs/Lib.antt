-- The lemmas on small parts: tables by number, programs of calls, a configuration that reads back.
pub mod Numbered
pub mod NumberedCounts
pub mod Places
pub mod Programs
pub mod ReadsBack
pub mod Words
