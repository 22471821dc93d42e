-- What is shown of the tables and the counter.
pub mod Tables
