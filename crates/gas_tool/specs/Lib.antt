pub mod Outcome
pub mod Program
