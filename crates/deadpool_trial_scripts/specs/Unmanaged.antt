-- How a script is played over an unmanaged pool, and the worked ones.
pub mod Script
pub mod Scripts
