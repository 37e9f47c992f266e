pub mod Axis
pub mod Words
pub mod Least
