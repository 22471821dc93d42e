-- The laws of a drawn row, of the home machine's, and of the points as they are run.
pub mod Laws
pub mod Home
pub mod Steps
