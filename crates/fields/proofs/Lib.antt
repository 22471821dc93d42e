-- The small fields as bytes, and back.
pub mod Fields
