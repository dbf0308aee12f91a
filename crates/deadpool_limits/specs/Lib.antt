-- How long an object may serve.
pub mod Limits
