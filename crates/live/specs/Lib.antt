pub mod History
pub mod Call
pub mod inner
