pub mod Question
pub mod inner
