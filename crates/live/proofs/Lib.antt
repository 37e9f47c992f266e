-- Laws on which the proofs of functions rest.
pub mod Joined
pub mod Growing
pub mod laws
