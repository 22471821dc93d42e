-- What the contracts of `pixel` cite.
pub mod Pixel
pub mod Column
