pub mod Sheet
pub mod Finding
pub mod Call
pub mod inner
