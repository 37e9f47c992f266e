pub mod Complement
pub mod Merge
pub mod OneRun
pub mod Shared
pub mod Made
pub mod Examples
