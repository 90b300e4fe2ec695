pub mod Ends
pub mod Workers
pub mod Feeders
pub mod Settled
pub mod Meetings
