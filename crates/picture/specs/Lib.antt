-- The picture of one row.
pub mod Tile
pub mod View
pub mod Picture
pub mod Screen
pub mod Layers
pub mod Area
pub mod Examples
