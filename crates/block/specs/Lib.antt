-- What the contracts of `block` cite.
pub mod Block
