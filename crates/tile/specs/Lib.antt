-- What the contracts of `tile` cite.
pub mod Line
pub mod Lanes
pub mod Layer
pub mod Fours
