pub mod Axis
pub mod Boolean
pub mod Order
pub mod Words
pub mod Least
