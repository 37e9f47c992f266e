mod TableLaws
mod ReaderLaws
pub mod laws
