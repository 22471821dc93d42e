-- The laws of the C face.
pub mod Steps
pub mod Laws
pub mod Exact
pub mod Pixels
pub mod Behind
pub mod Shapes
pub mod Blocks
pub mod Tiles
pub mod Kept
pub mod Repairs
pub mod Records
pub mod HomeLaws
pub mod HomeExact
pub mod HomeBehind
pub mod HomePixels
