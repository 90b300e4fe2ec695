pub mod PlainEnds
pub mod Slots
pub mod WorkerSteps
pub mod FeederSteps
pub mod Begun
pub mod Counted
pub mod Finished
