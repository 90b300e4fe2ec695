pub mod Written
pub mod Passes
mod Beside
