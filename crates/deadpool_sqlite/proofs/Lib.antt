-- The lemmas on connections: what the library's own statements do, and how a creation or a recycling comes out.
pub mod Texts
pub mod Outcomes
