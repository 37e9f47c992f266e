pub mod Degree
pub mod Nearest
pub mod inner
