-- The lemmas on a get: its phases, its polls, the hooks that it asks, and its first poll over a settled core.
pub mod CoreDesk
pub mod CorePolls
pub mod FirstPoll
pub mod FirstPollAtOnce
pub mod FirstPollComes
pub mod FirstPollTakes
pub mod HookLists
pub mod IdleLists
pub mod Phases
pub mod Polls
pub mod Served
pub mod Words
