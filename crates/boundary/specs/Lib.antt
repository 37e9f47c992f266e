pub mod Boundary
pub mod inner
