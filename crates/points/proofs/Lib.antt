-- The laws of the five points.
pub mod Rows
pub mod Sizes
pub mod Laws
pub mod Order
