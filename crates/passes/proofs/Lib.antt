-- What is said of every pass, proved of each machine that is lawful.
pub mod Counter
pub mod Lines
pub mod Lawful
pub mod Sound
pub mod Interrupts
pub mod Demand3
pub mod Chart
pub mod Split
pub mod Shows
pub mod Seven
