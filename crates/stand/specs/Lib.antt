-- What the contracts of `stand` cite.
pub mod Stand
