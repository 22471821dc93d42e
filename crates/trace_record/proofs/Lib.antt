-- The laws of records.
pub mod Records
pub mod Machines
pub mod Promises
