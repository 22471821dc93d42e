-- What the contract of `salvage` cites, and what is shown of it.
pub mod Repair
pub mod Salvaged
