pub mod Rounding
pub mod Fractions
pub mod Chain
pub mod Near
pub mod Number
pub mod Running
