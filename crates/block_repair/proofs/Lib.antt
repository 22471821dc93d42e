-- The laws of salvage.
pub mod Laws
pub mod Salvaged
