pub mod Lab
pub mod inner
