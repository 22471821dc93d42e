-- The demands, proved.
pub mod Steps
pub mod Answers
pub mod Handheld
pub mod Home
pub mod Seven
pub mod Author
pub mod Layers
pub mod Pixel
pub mod Edges
pub mod Outcome
pub mod OutcomeHome
pub mod OutcomeReader
