-- What the contracts of `trace_run` cite, the worked trace, and what the programs promise.
pub mod Device
pub mod Run
pub mod Output
pub mod Example
pub mod Promises
