pub mod Value
pub mod Record
pub mod Acceptance
pub mod Outcome
pub mod Pigment
pub mod Tail
pub mod Turn
pub mod Condition
