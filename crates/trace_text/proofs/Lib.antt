-- Numbers and lines, as the code writes them, and how a recording ends.
pub mod Lines
pub mod Endings
