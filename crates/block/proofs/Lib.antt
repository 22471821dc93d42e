-- The laws of the block.
pub mod Whole
pub mod RoundTrip
pub mod Shapes
pub mod Stores
pub mod Made
