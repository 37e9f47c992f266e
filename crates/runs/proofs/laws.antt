pub mod Cuts
pub mod Place
pub mod Runs
pub mod Set
pub mod Added
pub mod Distance
pub mod Written
pub mod Examples
