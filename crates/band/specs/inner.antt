pub mod Ends
pub mod OnAxis
