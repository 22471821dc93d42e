-- The demands through the C face, as statements.
pub mod Face
pub mod Calls
pub mod HomeCalls
pub mod Seven
pub mod Author
pub mod Kept
pub mod Apart
