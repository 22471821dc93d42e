-- The laws of the home machine's block.
pub mod Whole
pub mod Stores
pub mod RoundTrip
pub mod Ports
pub mod Shapes
