pub mod Finding
pub mod Lines
pub mod Same
pub mod Sheet
pub mod Firsts
pub mod Examples
