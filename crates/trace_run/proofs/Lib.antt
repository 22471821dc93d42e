-- Laws of one record, and of a whole recording: what it prints and draws, and what the programs promise.
pub mod Turns
pub mod Runs
pub mod Outputs
pub mod Until
pub mod Same
pub mod Numbers
pub mod Promises
