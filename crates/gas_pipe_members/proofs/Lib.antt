pub mod Composed
pub mod Workers
pub mod Shares
pub mod Emptied
pub mod Feeds
pub mod Queues
