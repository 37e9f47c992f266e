pub mod Progress
pub mod laws
