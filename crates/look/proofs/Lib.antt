-- The laws of what is asked of a record.
pub mod Steps
pub mod Sheets
pub mod Views
pub mod Pixels
pub mod HomePixels
