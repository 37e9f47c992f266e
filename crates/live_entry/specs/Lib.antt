pub mod Call
pub mod History
