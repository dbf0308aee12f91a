-- What a picture shows of a pool at one move. In the order in which it can be read.

-- The objects that parties were given, and that are out.
pub mod Given
-- What lanes show of parties.
pub mod Shapes
-- Whose place goes to whom.
pub mod Handed
-- What is drawn of a run.
pub mod Drawn
