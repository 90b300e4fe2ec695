pub mod Ends
pub mod Belt
pub mod Worker
pub mod Feeder
pub mod Plan
pub mod Inner
