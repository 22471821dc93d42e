-- The laws of the front in place.
pub mod Stores
pub mod Ports
