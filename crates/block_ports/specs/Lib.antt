-- What the contracts of `block_ports` cite.
pub mod InPlace
