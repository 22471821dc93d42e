-- Tiles in and out: what the contracts cite, and what is promised of it.
pub mod Tiles
pub mod Calls
pub mod Sheet
pub mod Promises
