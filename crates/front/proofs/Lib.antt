-- The laws of the ports of a front.
pub mod Kept
pub mod Exact
pub mod Behind
pub mod Invariant
