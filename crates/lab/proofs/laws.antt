pub mod Barred
pub mod Laboratory
pub mod Call
pub mod Pair
pub mod Plain
pub mod Examples
