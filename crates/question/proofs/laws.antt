pub mod Prepare
pub mod Limit
pub mod Answered
pub mod Call
pub mod Answer
pub mod Size
pub mod Lines
