pub mod Loading
pub mod Delivery
pub mod Repetition
