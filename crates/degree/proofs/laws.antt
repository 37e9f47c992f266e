pub mod Call
pub mod Nearest
pub mod Reach
