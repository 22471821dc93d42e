-- What the contracts of `vdp` cite, and what is shown of them.
pub mod Device
pub mod Refusals
pub mod Ports
pub mod Calls
