pub mod Kept
pub mod Selection
pub mod Unpigmented
