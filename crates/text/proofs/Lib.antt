mod TableLaws
mod BracketLaws
mod ToldLaws
pub mod laws
