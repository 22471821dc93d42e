-- What the contracts of `look` cite.
pub mod View
pub mod Layers
