-- Both pools behind pointers. In the order in which it can be read.

-- Replies and steps as plain numbers; the steps of both pools by these.
pub mod Replies
pub mod ManagedSteps
pub mod ManagedReplies
pub mod UnmanagedSteps
pub mod UnmanagedReplies
-- An order as plain numbers, and how it goes on.
pub mod Orders
-- The keys that a step gives up; a retain by a choice that was made beforehand.
pub mod Keys
pub mod Choices
-- The entries of a journal as plain numbers.
pub mod Entries
-- What a block owns.
pub mod ManagedOwned
pub mod UnmanagedOwned
