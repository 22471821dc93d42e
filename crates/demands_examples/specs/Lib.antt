-- The examples, computed.
pub mod Examples
pub mod Further
