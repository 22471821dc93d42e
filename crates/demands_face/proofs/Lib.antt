-- The demands through the C face, proved.
pub mod Lawful
pub mod Watched
pub mod Words
pub mod Reached
pub mod Stands
pub mod Answers
pub mod Handheld
pub mod HomeStands
pub mod HomeAnswers
pub mod Home
pub mod Seven
pub mod Runs
pub mod Author
pub mod Kept
pub mod HomeKept
