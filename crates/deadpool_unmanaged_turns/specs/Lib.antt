-- Who is granted an object or room, and when.
pub mod Steps
pub mod Turns
