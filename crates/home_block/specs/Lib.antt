-- What the contracts of `home_block` cite.
pub mod HomeBlock
pub mod InPlace
