pub mod Place
pub mod Unpacked
