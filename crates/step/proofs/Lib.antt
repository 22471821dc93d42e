-- The laws of the step.
pub mod Steps
pub mod Laws
pub mod Kept
