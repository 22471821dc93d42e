-- The laws of a tile's line.
pub mod Marks
pub mod Lanes
pub mod Squares
pub mod Store
pub mod Whole
pub mod Layer
