pub mod Coding
pub mod Code
pub mod Span
pub mod Extreme
pub mod Indices
pub mod Differing
pub mod Leaf
