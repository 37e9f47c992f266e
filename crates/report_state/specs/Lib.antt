pub mod State
pub mod Call
pub mod Calls
pub mod inner
