-- The laws of the answer word and of a call.
pub mod Words
pub mod Calls
