pub mod Prepare
pub mod Answered
pub mod Lines
