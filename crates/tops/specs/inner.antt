pub mod Events
pub mod Scan
pub mod Turning
