-- What the contracts of `raster` cite.
pub mod Raster
