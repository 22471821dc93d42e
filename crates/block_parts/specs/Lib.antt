-- What the contracts of `block_parts` cite.
pub mod Parts
