-- What the contracts of `inplace` cite.
pub mod InPlace
