pub mod Complement
pub mod Merge
pub mod OneRun
