-- Who is granted a place, and when; and who holds which object.
pub mod Ahead
pub mod Holders
pub mod Leaving
pub mod OtherOrders
pub mod Own
pub mod Steps
pub mod Tickets
pub mod Turns
