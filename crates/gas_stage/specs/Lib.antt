pub mod Stage
pub mod Stages
pub mod Evolution
pub mod Inner
