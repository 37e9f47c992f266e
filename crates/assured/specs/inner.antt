pub mod Test
pub mod Traits
pub mod Verdict
