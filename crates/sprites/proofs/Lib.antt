-- The laws of one sprite, and of the list of sprites on a line.
pub mod Laws
pub mod List
