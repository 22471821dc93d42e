-- What the contracts of `program` cite.
pub mod Counts
