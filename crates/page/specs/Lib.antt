pub mod Page
pub mod Decimal
pub mod Typed
pub mod Printed
pub mod Intake
pub mod inner
