-- Tiles in and out, proved.
pub mod Planes
pub mod Calls
pub mod Loops
pub mod Sheets
pub mod RoundTrip
pub mod Converts
