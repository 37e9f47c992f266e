pub mod Pass
pub mod laws
