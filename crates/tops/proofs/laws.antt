pub mod Scan
pub mod Turning
pub mod Turn
pub mod Pick
pub mod Event
pub mod Addition
pub mod Examples
