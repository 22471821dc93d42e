-- The laws that every layer cites.
pub mod Tests
pub mod Bits
pub mod Tables
pub mod Any
pub mod Lists
pub mod Parts
pub mod Places
pub mod Frames
pub mod Bytes
pub mod Paint
pub mod Once
pub mod Sweep
