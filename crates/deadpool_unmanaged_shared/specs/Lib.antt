-- The unmanaged pool between threads and tasks: what a poll does under the pool's lock.
pub mod Locked
pub mod Room
-- What a poll or a call is to its caller.
pub mod Calling
pub mod Asking
-- A drain, how it ends, and its calls.
pub mod Drains
-- What contracts of this crate cite of those below: states that are polled, and the steps of the pool.
pub use Rattle.deadpool_unmanaged.specs.Gets
pub use Rattle.deadpool_unmanaged.specs.Adds
pub use Rattle.deadpool_unmanaged.specs.State
pub use Rattle.deadpool_unmanaged.specs.StateSteps
pub use Rattle.deadpool_unmanaged.specs.Replies
