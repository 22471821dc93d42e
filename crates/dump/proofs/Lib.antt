-- The laws of the tile dump.
pub mod Places
pub mod Lines
pub mod Sheets
