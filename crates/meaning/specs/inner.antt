pub mod Recorded
pub mod Coded
pub mod Truth
