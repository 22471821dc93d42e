-- A machine, a pass of it, and what is said of every one.
pub mod Machine
pub mod Pass
pub mod Rows
pub mod Interrupts
pub mod Seven
pub mod Split
pub mod Shows
pub mod Chart
