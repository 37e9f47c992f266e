pub mod Times
pub mod Sweep
