-- The laws of one pixel, and of one column: a place of the priority mask, one column of a sprite, and the list of sprites on one column.
pub mod Spots
pub mod Front
pub mod Laws
