-- The laws of the handheld's ports.
pub mod Exact
pub mod Behind
pub mod Invariant
