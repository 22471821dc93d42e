-- The demands, as statements.
pub mod Handheld
pub mod Home
pub mod Numbers
pub mod Author
pub mod Layers
pub mod Outcome
pub mod Pixel
pub mod Edges
