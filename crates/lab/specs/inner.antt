pub mod Barred
pub mod Prepare
