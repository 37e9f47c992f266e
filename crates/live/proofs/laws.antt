pub mod Thinned
pub mod Step
pub mod InHalf
pub mod Examples
pub mod Behind
