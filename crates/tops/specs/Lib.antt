pub mod Tops
pub mod inner
