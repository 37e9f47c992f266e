pub mod Word
pub mod Class
pub mod Number
pub mod Leaf
pub mod Unique
pub mod Pigment
