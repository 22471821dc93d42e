-- What the contracts of `bitmap` cite.
pub mod Mask
pub mod Collisions
