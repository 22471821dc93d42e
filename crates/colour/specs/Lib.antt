-- What the contracts of `colour` cite.
pub mod Colour
pub mod Home
