-- The laws of the ports in place.
pub mod Front
pub mod Palette
pub mod Calls
