-- What an object has beside its known keys, what a lenient reading tells, and the laws of a strict one.
mod KnownKeys
mod Lenient
pub mod ManagedLaws
pub mod UnmanagedLaws
mod Words
