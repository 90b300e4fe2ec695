pub mod Output
pub mod Text
pub mod Table
pub mod Replay
pub mod Inner
