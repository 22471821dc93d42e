-- The laws of the home machine.
pub mod Exact
pub mod Kept
pub mod Laws
pub mod Steps
