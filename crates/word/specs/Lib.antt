-- What the contracts of `word` cite, and those of the C face.
pub mod Word
pub mod Called
