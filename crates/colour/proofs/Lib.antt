-- The laws of colours.
pub mod Laws
