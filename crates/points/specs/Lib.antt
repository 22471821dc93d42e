-- What the contracts of `points` cite.
pub mod Points
pub mod Bytes
pub mod Due
