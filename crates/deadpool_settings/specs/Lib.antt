-- Configurations that are read strictly, and texts.
pub mod Faults
pub mod Keys
pub mod Laws
pub mod Managed
pub mod Results
pub mod Texts
pub mod Unmanaged
