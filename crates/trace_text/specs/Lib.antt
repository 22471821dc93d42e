-- What the contracts of `trace_text` cite.
pub mod Text
pub mod End
