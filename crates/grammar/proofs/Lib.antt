mod ClassLaws
pub mod laws
