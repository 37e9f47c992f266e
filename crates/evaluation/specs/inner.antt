pub mod Evaluation
pub mod Step
pub mod Slots
pub mod Evaluate
