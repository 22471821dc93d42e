-- The laws of a table of refusals.
pub mod Tables
