pub mod Running
pub mod Naming
pub mod Steps
pub mod Fold
pub mod Examples
