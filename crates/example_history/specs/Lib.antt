-- What a visit to a pool leaves.
pub mod Visits
