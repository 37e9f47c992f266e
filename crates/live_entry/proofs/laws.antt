pub mod Call
pub mod Follow
pub mod InHalf
