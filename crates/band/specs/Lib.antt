pub mod Band
pub mod Means
pub mod Call
pub mod inner
