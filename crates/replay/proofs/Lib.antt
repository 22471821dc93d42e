-- The laws of a replay.
pub mod Laws
