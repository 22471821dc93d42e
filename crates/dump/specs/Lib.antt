-- What the contracts of `dump` cite.
pub mod Dump
pub mod Lines
pub mod Sheet
