-- What the contracts of `face` cite, and what is shown of them.
pub mod Face
pub mod Steps
pub mod Target
pub mod Stepped
pub mod Refused
pub mod Version
pub mod Tiles
pub mod Kept
pub mod Layers
pub mod Pixel
pub mod Repair
pub mod Record
pub mod Home
pub mod HomeLayers
pub mod HomeStepped
pub mod HomePixel
pub mod HomeRefused
