-- The laws of the picture of a row.
pub mod Laws
pub mod Layers
