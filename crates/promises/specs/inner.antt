pub mod Calls
pub mod SameAnswers
pub mod StandIn
pub mod Made
pub mod Machines
pub mod LinesComputed
pub mod OldRecordings
