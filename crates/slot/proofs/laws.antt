pub mod Bytes
pub mod Nearness
