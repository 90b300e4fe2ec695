pub mod Replay
pub mod Inner
