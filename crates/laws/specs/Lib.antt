-- What several layers' definitions are written with.
pub mod Bits
pub mod Table
pub mod Circle
pub mod Lists
pub mod Paint
pub mod Once
pub mod Sizes
