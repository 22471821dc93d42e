-- What the contracts of `trace_record` cite, and what is promised of them.
pub mod Record
pub mod Machine
pub mod Writer
pub mod Reader
pub mod Promises
