-- What the contracts of `front` cite.
pub mod Front
pub mod Lines
pub mod Ports
