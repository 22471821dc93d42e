-- The laws of the parts of a block.
pub mod Copies
pub mod Fields
pub mod Format
pub mod Front
