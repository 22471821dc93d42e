-- The laws of a row of background, of its whole tiles' marks, and of the views that ask for one.
pub mod Laws
pub mod Marks
pub mod Views
pub mod Home
