pub mod laws
