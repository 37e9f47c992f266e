pub mod Syntax
pub mod Bytes
pub mod Classes
pub mod Size
pub mod Grammar
pub mod inner
