-- The clock of real time.

-- What a timer's alarms are, and when they ring.
pub mod Ringing
-- What a timer's thread does.
pub mod Rounds
