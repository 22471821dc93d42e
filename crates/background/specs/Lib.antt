-- What the contracts of `background` cite.
pub mod Background
