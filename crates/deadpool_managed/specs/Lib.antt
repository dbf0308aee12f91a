-- The managed pool over a manager and hooks. In the order in which it can be read.

-- What a pool asks of a manager, of hooks and of the allocator, and what they may answer.
pub mod Answers
pub mod Outside
pub mod HookLists
-- What is known of an object's past; an object.
pub mod Metrics
pub mod Slots
-- How far a get is, and the object that it prepares.
pub mod Stages
-- What an object passes before it is handed out.
pub mod Calls
pub mod Prepare
-- A get: what one advance and one poll make of it, and what it holds.
pub mod Holds
pub mod Kinds
pub mod Get
pub mod Bounds
pub mod FirstPoll
pub mod Phases
pub mod Steps
-- What contracts of this crate cite of the one below.
pub use Rattle.deadpool_desk.specs.declared.step.Held
