pub mod Leaf
pub mod Span
pub mod Extreme
pub mod Indices
pub mod Differing
