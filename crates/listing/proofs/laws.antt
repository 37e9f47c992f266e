pub mod Listing
pub mod Reaches
pub mod Call
pub mod Opened
pub mod Examples
