pub mod Apart
pub mod Degree
