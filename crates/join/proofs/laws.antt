pub mod Join
pub mod Remainder
