-- What the contracts of `home` cite, and what is shown of them.
pub mod Home
pub mod Ports
pub mod Step
pub mod Layers
pub mod Promises
