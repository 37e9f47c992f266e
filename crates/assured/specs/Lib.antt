pub mod Assured
pub mod Call
pub mod inner
